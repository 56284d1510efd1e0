-- The module at an index of the listing, for a caller of `list().nth(place)`.
use Rattle.std.proofs.Common.{◌≡◌, ℕ, zero, suc, List, [], ◌∷◌, map, refl, ap}
use Rattle.std.specs.Prelude.{Option, None, Some, option_map, slice_get}
use Rattle.std.specs.Borrow.{Bor}
use Rattle.module_map.specs.World.{Loaded, name_at}
use Rattle.module_map.specs.Listing.{Listed, list_item, item_data}
use Rattle.module_map.specs.declared.faults.Extent.{Extent}

unwrap : {a b : Listed} → Some a ≡ Some b → a ≡ b
unwrap e = cc

pub item-name : (modules : List Loaded) (place : ℕ) (item : Bor (List ℕ) × Extent × ℕ)
    → option_map item_data (Some item) ≡ slice_get (map list_item modules) place
    → item.0.now ≡ name_at modules place
item-name [] place item e = cc
item-name (m ∷ modules) zero item e = ap (λ (l : Listed). l.name) (unwrap e)
item-name (m ∷ modules) (suc place) item e = item-name modules place item e

pub no-item-name : (modules : List Loaded) (place : ℕ)
    → (let none : Option (Bor (List ℕ) × Extent × ℕ) = None in option_map item_data none)
    ≡ slice_get (map list_item modules) place
    → [] ≡ name_at modules place
no-item-name [] place e = refl
no-item-name (m ∷ modules) zero e = cc
no-item-name (m ∷ modules) (suc place) e = no-item-name modules place e
