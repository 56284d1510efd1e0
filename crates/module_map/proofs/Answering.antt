-- The result of an ask is the answer of the world.
use Rattle.std.proofs.Common.{◌≡◌, ◌⊎◌, inl, inr, ℕ, ◌-◌, ◌<◌, ◌≤◌, List, [], length, get_or, refl}
use Rattle.std.proofs.Common.{sym, ap, ◌∙◌, arith}
use Rattle.std.specs.Prelude.{Option, None, Some, position}
use Rattle.std.specs.Option.{option_map_or}
use Rattle.addr_table.specs.Module.{place_in, frames_in, scan}
use Rattle.addr_table.specs.declared.place.Place.{Place}
use Rattle.addr_table.proofs.Scanning.PlaceLaws.{scan-place}
use Rattle.module_map.specs.World.{Loaded, holds}
use Rattle.module_map.specs.Answers.{asked, frames_at, frames_of}
use Rattle.module_map.specs.declared.asked.Asked.{Asked}
use Rattle.module_map.specs.declared.asked.Found.{Found}
use Rattle.module_map.specs.Private.Serials.{NumberedModule}
use Rattle.module_map.proofs.Worlds.{found_none, found_some}
use Rattle.module_map.proofs.Changing.{world_of}
use Rattle.module_map.proofs.Asking.{asked-none, asked-some, in-list}

-- the result of a lookup at an address, and the frames there
record Finds (hs : List NumberedModule) (loads address : ℕ) (at : ℕ) : Type 0 where
  within : at < length hs
  found : (d : NumberedModule)
      → (asked (world_of hs loads) address).found
      ≡ Some (record {
        at = at;
        place =
            place_in (get_or hs at d).loaded.bytes (address - (get_or hs at d).loaded.base);
      })
  frames : (d : NumberedModule)
      → frames_at (world_of hs loads) address ≡ scan (get_or hs at d).loaded.bytes
      (address - (get_or hs at d).loaded.base)

record FindsNone (hs : List NumberedModule) (loads address : ℕ) : Type 0 where
  found : (asked (world_of hs loads) address).found ≡ None
  frames : frames_at (world_of hs loads) address ≡ []

finds : (hs : List NumberedModule) (loads address : ℕ) (o : Option ℕ)
    → position (λ (h : NumberedModule). holds address h.loaded) hs ≡ o
    → FindsNone hs loads address ⊎ ((at : ℕ) × Finds hs loads address at)
unfolding frames_at
finds hs loads address None e = inl (record {
  found = sym (ap (λ (x : Asked). x.found) (asked-none hs loads address e));
  frames = ap (λ (o : Option Loaded). frames_of o address) (found_none (holds address) hs e);
})
finds hs loads address (Some at) e = inr (
  at,
  record {
    within = in-list (λ (h : NumberedModule). holds address h.loaded) hs at e;
    found =
        λ d. sym (ap (λ (x : Asked). x.found)
        (asked-some hs loads address at d
        (place_in (get_or hs at d).loaded.bytes (address - (get_or hs at d).loaded.base)) e
        refl));
    frames = λ d. ap (λ (o : Option Loaded). frames_of o address)
        (found_some (holds address) hs at d e);
  },
)

module _ (hs : List NumberedModule) (loads address : ℕ) (x : Asked)
    (is : x ≡ asked (world_of hs loads) address) where
  the_finds : FindsNone hs loads address ⊎ ((at : ℕ) × Finds hs loads address at)
  the_finds = finds hs loads address (position (λ (h : NumberedModule). holds address h.loaded) hs)
      refl

  same : x.found ≡ (asked (world_of hs loads) address).found
  same = ap (λ (y : Asked). y.found) is

  pub none_found : x.found ≡ None → [] ≡ frames_at (world_of hs loads) address
  none_found e = by the_finds
    where
      by : FindsNone hs loads address ⊎ ((at : ℕ) × Finds hs loads address at)
          → [] ≡ frames_at (world_of hs loads) address
      by (inl none) = sym none.frames
      by (inr some) =
          let d : NumberedModule = record
          { serial = 0; loaded = record { name = []; base = 0; bytes = [] } } in
          let f = some.1.found d in
          let g = same in
          cc

  module _ (f : Found) (e : x.found ≡ Some f) where
    -- the result of the lookup, among the modules
    record There (at : ℕ) : Type 0 where
      within : at < length hs
      place : (d : NumberedModule) → f.place ≡ place_in (get_or hs at d).loaded.bytes
          (address - (get_or hs at d).loaded.base)
      frames : (d : NumberedModule)
          → frames_at (world_of hs loads) address ≡ scan (get_or hs at d).loaded.bytes
          (address - (get_or hs at d).loaded.base)
      here : f.at ≡ at

    unwrap : {A : Type 0} (a b : A) → Some a ≡ Some b → a ≡ b
    unwrap a b h = cc

    there : (at : ℕ) × There at
    there = by the_finds
      where
        by : FindsNone hs loads address ⊎ ((at : ℕ) × Finds hs loads address at)
            → (at : ℕ) × There at
        by (inl none) = let g = same in let h = none.found in cc
        by (inr some) = let found = some.1 in (
          some.0,
          record {
            within = found.within;
            place = λ d. ap (λ (y : Found). y.place) (unwrap f _ (sym e ∙ same ∙ found.found d));
            frames = found.frames;
            here =
                let d : NumberedModule =
                record { serial = 0; loaded = record { name = []; base = 0; bytes = [] } } in
                ap (λ (y : Found). y.at) (unwrap f _ (sym e ∙ same ∙ found.found d));
          },
        )

    framed : (d : NumberedModule)
        → frames_at (world_of hs loads) address
        ≡ option_map_or (frames_in (get_or hs there.0 d).loaded.bytes) f.place []
    framed d = there.1.frames d ∙ scan-place (get_or hs there.0 d).loaded.bytes
        (address - (get_or hs there.0 d).loaded.base)
        ∙ ap (λ (p : Option Place). option_map_or (frames_in (get_or hs there.0 d).loaded.bytes) p
        []) (sym (there.1.place d))

    pub no_place : f.place ≡ None → [] ≡ frames_at (world_of hs loads) address
    no_place n = let d : NumberedModule =
        record { serial = 0; loaded = record { name = []; base = 0; bytes = [] } } in
        sym (framed d ∙ ap (λ (p : Option Place). option_map_or
        (frames_in (get_or hs there.0 d).loaded.bytes) p []) n)

    pub past_end : length hs ≤ f.at → [] ≡ frames_at (world_of hs loads) address
    past_end le = let w = there.1.within in let h = there.1.here in absurd (omega arith)

    pub at_place : (p : Place) (g : NumberedModule) → f.place ≡ Some p → g ≡ get_or hs f.at g
        → frames_in g.loaded.bytes p ≡ frames_at (world_of hs loads) address
    at_place p g s r =
        ap (λ (h : NumberedModule). frames_in h.loaded.bytes p)
        (r ∙ ap (λ n. get_or hs n g) there.1.here)
        ∙ sym (framed g ∙ ap (λ (q : Option Place). option_map_or
        (frames_in (get_or hs there.0 g).loaded.bytes) q []) s)
