-- The modules as they are listed.
use Rattle.std.proofs.Common.{◌≡◌, ◌∙◌, ℕ, List, [], ◌++◌, subst, refl, ap}
use Rattle.std.specs.Prelude.{Option, None, Some, Result, Ok, Err, flat_map, codes, map, slice_get}
use Rattle.std.specs.Prelude.{option_map}
use Rattle.std.specs.Option.{option_map_or}
use Rattle.std.specs.Borrow.{Bor}
use Rattle.std.proofs.lemmas.Option.{slice_get-map}
use Rattle.module_map.specs.World.{Loaded, name_at}
use Rattle.module_map.specs.declared.faults.Extent.{Extent}
use Rattle.std.specs.Io.KnownBytes.{Appends}
use Rattle.module_map.specs.Listing.{Listed, list_item, item_data}
use Rattle.io_streams.specs.Streams.{IsBeginning, Writes}
use Rattle.answer_text.specs.Pending.{Put, Cut}
use Rattle.answer_text.proofs.PendingLemmas.{puts-then, writes-all}
use Rattle.command_loop.specs.Text.{module_text, list_text}

pub list-cut : (a b c : Option (List ℕ)) (h h' : List ℕ) (items all : List Listed) → h ≡ []
    → items ≡ all
    → Put a b h h' (flat_map module_text items) → Cut b c h' (codes "end\n")
    → (part : List ℕ) × IsBeginning part (list_text all) × Appends a c part
list-cut a b c h h' items all e f p q =
    let k : Cut a c h (flat_map module_text items ++ codes "end\n") =
    puts-then {E = Unit {0}} a b c h h' [] (flat_map module_text items) (codes "end\n") (Err tt) p
    q in
    let B : List ℕ → Type 0 = λ z. IsBeginning k.sent
    (z ++ (flat_map module_text items ++ codes "end\n")) in
    let C : List Listed → Type 0 = λ z. IsBeginning k.sent (list_text z) in
    (k.sent, subst C f (subst B e k.begins), k.appended)

pub list-writes : {E : Type 0} (a b c d : Option (List ℕ)) (h h' h'' : List ℕ)
    (items all : List Listed) (r : Result (Unit {0}) E)
    → h ≡ [] → items ≡ all
    → Put a b h h' (flat_map module_text items) → Put b c h' h'' (codes "end\n") → Writes c d r h''
    → Writes a d r (list_text all)
list-writes {E} a b c d h h' h'' items all r e f p q w =
    let k : Put a c h h'' (flat_map module_text items ++ codes "end\n") =
    puts-then {E = Unit {0}} a b c h h' h'' (flat_map module_text items) (codes "end\n") (Ok tt) p
    q in
    let B : List ℕ → Type 0 = λ z. Put a c z h'' (flat_map module_text items ++ codes "end\n") in
    let C : List Listed → Type 0 = λ z. Writes a d r (list_text z) in
    subst C f (writes-all _ _ _ _ _ _ (subst B e k) w)

-- ---- one module of the list

-- the item at an index of the list has the name of the module there
pub item-name : (item : Option (Bor (List ℕ) × Extent × ℕ)) (modules : List Loaded) (index : ℕ)
    → option_map item_data item ≡ slice_get (map list_item modules) index
    → option_map_or (λ i. i.0.now) item [] ≡ name_at modules index
item-name item modules index e = at item (slice_get modules index)
    (e ∙ slice_get-map list_item modules index)
  where
    at : (item : Option (Bor (List ℕ) × Extent × ℕ)) (m : Option Loaded)
        → option_map item_data item ≡ option_map list_item m
        → option_map_or (λ i. i.0.now) item [] ≡ option_map_or (λ m. m.name) m []
    at None None e = refl
    at None (Some m) e = absurd cc
    at (Some i) None e = absurd cc
    at (Some i) (Some m) e = ap (λ (z : Option Listed). option_map_or (λ l. l.name) z []) e
