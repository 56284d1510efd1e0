-- Output with a part that is known by an equation.
use Rattle.std.proofs.Common.{◌≡◌, ℕ, true, false, List, [], ◌∷◌, ◌++◌, refl, sym, ap, ◌∙◌, subst}
use Rattle.std.proofs.Common.{append_assoc, append-nil, Bool, arith}
use Rattle.std.proofs.lemmas.Fmt.{decimal_digit}
use Rattle.std.specs.Prelude.{Option, None, Result, Ok, Err, flat_map, if◌then◌else◌}
use Rattle.answer_text.specs.Pending.{Put, Cut, Puts}
use Rattle.addr_table.specs.Frames.{Frame, Site, first_site}
use Rattle.answer_text.specs.Printable.{text_or_unknown}
use Rattle.answer_text.specs.Text.{frame_text, later_text, frames_text, name_text}
use Rattle.answer_text.specs.Text.{name_of, after_name}
use Rattle.answer_text.specs.Text.{file_of, place_text}
use Rattle.io_streams.specs.declared.options.Options.{Options}
use Rattle.answer_text.proofs.PendingLemmas.{cut-more, puts-then, cut-as, put-as, puts-as}

pub cut-same : (a b : Option (List ℕ)) (h : List ℕ) (t t' : Option (List ℕ)) (rest : List ℕ)
    → t ≡ t' → Cut a b h (text_or_unknown t)
    → Cut a b h (text_or_unknown t' ++ rest)
cut-same a b h t t' rest e p = subst (λ (x : Option (List ℕ)). Cut a b h (text_or_unknown x
    ++ rest)) e
    (cut-more a b h (text_or_unknown t) rest p)

pub puts-same : {E : Type 0} (a b c : Option (List ℕ)) (h h' h'' : List ℕ) (t t' : Option (List ℕ))
    (y y' : List ℕ)
    (r : Result (Unit {0}) E) → t ≡ t' → y ≡ y'
    → Put a b h h' (text_or_unknown t) → Puts b c h' h'' r y → Puts a c h h'' r (text_or_unknown t'
    ++ y')
puts-same {E} a b c h h' h'' t t' y y' r e f p q =
    subst (λ (x : Option (List ℕ)). Puts a c h h'' r (text_or_unknown x ++ y')) e
    (subst (λ (z : List ℕ). Puts a c h h'' r (text_or_unknown t ++ z)) f
    (puts-then a b c h h' h'' (text_or_unknown t) y r p q))

-- the name, if names are requested
pub named-text : (options : Options) (frame : Frame) → options.functions ≡ true
    → text_or_unknown (name_of options frame) ++ after_name options ≡ name_text options frame
named-text options frame e = rw e refl

-- the first string replaced by an equal one, and the output after it
pub cut-first : (a b : Option (List ℕ)) (h x y rest : List ℕ) → x ≡ y → Cut a b h x
    → Cut a b h (y ++ rest)
cut-first a b h x y rest e p = cut-more a b h y rest (cut-as a b h x y e p)

pub puts-first : {E : Type 0} (a b c : Option (List ℕ)) (h h' h'' x y rest : List ℕ)
    (r : Result (Unit {0}) E) → x ≡ y → Put a b h h' x
    → Puts b c h' h'' r rest → Puts a c h h'' r (y ++ rest)
puts-first a b c h h' h'' x y rest r e p q =
    puts-then a b c h h' h'' y rest r (put-as a b h h' x y e p) q

pub cut-named : (a b : Option (List ℕ)) (h : List ℕ) (options : Options) (frame : Frame)
    (t : Option (List ℕ)) → options.functions ≡ true
    → t ≡ name_of options frame → Cut a b h (text_or_unknown t)
    → Cut a b h (name_text options frame)
cut-named a b h options frame t on e p =
    cut-as a b h _ _ (named-text options frame on)
    (cut-same a b h t (name_of options frame) (after_name options) e p)

pub puts-named : {E : Type 0} (a b c : Option (List ℕ)) (h h' h'' : List ℕ) (options : Options)
    (frame : Frame) (t : Option (List ℕ))
    (y : List ℕ) (r : Result (Unit {0}) E) → options.functions ≡ true
    → t ≡ name_of options frame → y ≡ after_name options → Put a b h h' (text_or_unknown t)
    → Puts b c h' h'' r y
    → Puts a c h h'' r (name_text options frame)
puts-named a b c h h' h'' options frame t y r on e f p q =
    puts-as a c h h'' _ _ r (named-text options frame on)
    (puts-same a b c h h' h'' t (name_of options frame) y (after_name options) r e f p q)

-- only the innermost frame, or also the others
pub cut-frames : (a b : Option (List ℕ)) (h : List ℕ) (options : Options) (fs : List Frame)
    (f : Frame) (rest : List Frame)
    → fs ≡ f ∷ rest → Cut a b h (frame_text options f)
    → Cut a b h (frames_text options fs)
cut-frames a b h options fs f rest e p =
    cut-as a b h _ _ (ap (frames_text options) (sym e))
    (cut-more a b h (frame_text options f)
    (if options.inlines then flat_map (later_text options) rest else []) p)

pub put-one : (a b : Option (List ℕ)) (h h' : List ℕ) (options : Options) (fs : List Frame)
    (f : Frame) (rest : List Frame) → fs ≡ f ∷ rest → options.inlines ≡ false
    → Put a b h h' (frame_text options f) → Put a b h h' (frames_text options fs)
put-one a b h h' options fs f rest e off p =
    let head : frame_text options f ≡ frames_text options (f ∷ rest) =
    rw off (sym (append-nil (frame_text options f))) in
    put-as a b h h' _ _ (head ∙ ap (frames_text options) (sym e)) p

pub puts-all : {E : Type 0} (a b c : Option (List ℕ)) (h h' h'' : List ℕ) (options : Options)
    (fs : List Frame) (f : Frame)
    (rest : List Frame) (r : Result (Unit {0}) E) → fs ≡ f ∷ rest → options.inlines ≡ true
    → Put a b h h' (frame_text options f) → Puts b c h' h'' r (flat_map (later_text options) rest)
    → Puts a c h h'' r (frames_text options fs)
puts-all a b c h h' h'' options fs f rest r e on p q =
    let head : frame_text options f ++ flat_map (later_text options) rest
    ≡ frames_text options (f ∷ rest) = rw on refl in
    puts-as a c h h'' _ _ r (head ∙ ap (frames_text options) (sym e))
    (puts-then a b c h h' h'' (frame_text options f) (flat_map (later_text options) rest) r p q)

-- the items that were appended, and the remaining ones
pub put-item : {X : Type 0} (a b c : Option (List ℕ)) (h h' h'' : List ℕ) (t : X → List ℕ)
    (all done left rest : List X) (x : X)
    → all ≡ done ++ left → left ≡ x ∷ rest
    → Put a b h h' (flat_map t done) → Put b c h' h'' (t x) → (more : List X) × (all ≡ more ++ rest)
    × Put a c h h'' (flat_map t more)
put-item a b c h h' h'' t all done left rest x e g p q = (
  done ++ x ∷ [],
  e ∙ ap (λ z. done ++ z) g ∙ sym (append_assoc done (x ∷ []) rest),
  put-as a c h h'' _ _ (sym (flat_map_then t done x))
      (puts-then {E = Unit {0}} a b c h h' h'' (flat_map t done) (t x) (Ok tt) p q),
)
  where
    flat_map_then : {X : Type 0} (t : X → List ℕ) (done : List X) (x : X)
        → flat_map t (done ++ x ∷ []) ≡ flat_map t done ++ t x
    flat_map_then t [] x = append-nil (t x)
    flat_map_then t (y ∷ ys) x = ap (λ (z : List ℕ). t y ++ z) (flat_map_then t ys x)
        ∙ sym (append_assoc (t y) (flat_map t ys) (t x))

pub cut-item : {X : Type 0} (a b c : Option (List ℕ)) (h h' : List ℕ) (t : X → List ℕ)
    (all done left rest : List X) (x : X)
    → all ≡ done ++ left → left ≡ x ∷ rest
    → Put a b h h' (flat_map t done) → Cut b c h' (t x) → Cut a c h (flat_map t all)
cut-item a b c h h' t all done left rest x e g p q =
    cut-as a c h _ _ (sym (ap (flat_map t) (e ∙ ap (λ z. done ++ z) g)
    ∙ flat_map_append t done (x ∷ rest)))
    (puts-then {E = Unit {0}} a b c h h' [] (flat_map t done) (flat_map t (x ∷ rest)) (Err tt) p
    (cut-more b c h' (t x) (flat_map t rest) q))
  where
    flat_map_append : {X : Type 0} (t : X → List ℕ) (xs ys : List X)
        → flat_map t (xs ++ ys) ≡ flat_map t xs ++ flat_map t ys
    flat_map_append t [] ys = refl
    flat_map_append t (x ∷ xs) ys =
        ap (λ (z : List ℕ). t x ++ z) (flat_map_append t xs ys)
        ∙ sym (append_assoc (t x) (flat_map t xs) (flat_map t ys))

-- without names and inlined callers, the output is the position of the innermost frame
pub site-text : (options : Options) (site : Site) (fs : List Frame) → options.functions ≡ false
    → options.inlines ≡ false → site ≡ first_site fs
    → place_text options site.path site.line ≡ frames_text options fs
site-text options site fs unnamed alone is =
    ap (λ (s : Site). place_text options s.path s.line) is ∙ first fs
  where
    no_file : file_of options None ≡ None
    no_file = cases options.basenames refl
      where
        cases : (short : Bool) → options.basenames ≡ short → file_of options None ≡ None
        cases true e = rw e refl
        cases false e = rw e refl

    first : (fs : List Frame)
        → place_text options (first_site fs).path (first_site fs).line ≡ frames_text options fs
    first [] = rw (no_file, unnamed, decimal_digit 0 (omega arith)) refl
    first (frame ∷ outer) = rw (unnamed, alone) (sym (append-nil _))
