-- Strings appended one after the other.
use Rattle.std.proofs.Common.{◌≡◌, Bool, true, false, ℕ, zero, suc, ◌+◌, ◌<◌}
use Rattle.std.proofs.Common.{List, [], ◌∷◌, ◌++◌, length, map}
use Rattle.std.proofs.Common.{take, drop, get_or, refl, sym, ◌∙◌, ap, subst, append_assoc}
use Rattle.std.proofs.Common.{append-nil, add-one, arith}
use Rattle.std.specs.Prelude.{Option, Result, Ok, Err, not, ◌&&◌, if◌then◌else◌}
use Rattle.std.proofs.lemmas.Bool.{false≢true}
use Rattle.answer_text.specs.Printable.{is_control, printable}
use Rattle.std.specs.List.{flat_map, list_all}
use Rattle.std.specs.Io.KnownBytes.{Appends}
use Rattle.std.proofs.lemmas.List.Concat.{flat_map_single}
use Rattle.io_streams.proofs.StreamLemmas.{appends_then, appends_nothing}
use Rattle.io_streams.specs.Streams.{IsBeginning, Writes}
use Rattle.answer_text.specs.Pending.{Put, Cut, Puts}

-- an append after an append
pub put-then : (a b c : Option (List ℕ)) (h h' h'' x y : List ℕ) → Put a b h h' x → Put b c h' h'' y
    → Put a c h h'' (x ++ y)
put-then a b c h h' h'' x y p q = record {
  sent = p.sent ++ q.sent;
  splits =
      sym (append_assoc h x y) ∙ ap (λ (z : List ℕ). z ++ y) p.splits ∙ append_assoc p.sent h' y
      ∙ ap (λ (z : List ℕ). p.sent ++ z) q.splits ∙ sym (append_assoc p.sent q.sent h'');
  appended = appends_then a b c p.sent q.sent p.appended q.appended;
}

pub put-cut : (a b c : Option (List ℕ)) (h h' x y : List ℕ) → Put a b h h' x → Cut b c h' y
    → Cut a c h (x ++ y)
put-cut a b c h h' x y p q = record {
  sent = p.sent ++ q.sent;
  begins = (
    q.begins.0,
    append_assoc p.sent q.sent q.begins.0 ∙ ap (λ (z : List ℕ). p.sent ++ z) q.begins.1 ∙ sym
        (append_assoc p.sent h' y) ∙ ap (λ (z : List ℕ). z ++ y) (sym p.splits)
        ∙ append_assoc h x y,
  );
  appended = appends_then a b c p.sent q.sent p.appended q.appended;
}

-- if only a prefix of a string was written, it is also a prefix of a longer string
pub cut-more : (a b : Option (List ℕ)) (h x y : List ℕ) → Cut a b h x → Cut a b h (x ++ y)
cut-more a b h x y p = record {
  sent = p.sent;
  begins = (
    p.begins.0 ++ y,
    sym (append_assoc p.sent p.begins.0 y) ∙ ap (λ (z : List ℕ). z ++ y)
        p.begins.1 ∙ append_assoc h x y,
  );
  appended = p.appended;
}

-- a string was written while the buffer was empty
pub puts-through : {E : Type 0} (a b : Option (List ℕ)) (h x : List ℕ) (r : Result (Unit {0}) E)
    → h ≡ [] → Writes a b r x
    → Puts a b h h r x
puts-through a b [] x (Ok done) e w = record { sent = x; splits = sym (append-nil x); appended = w }
puts-through a b [] x (Err fault) e w = record { sent = w.0; begins = w.1; appended = w.2 }
puts-through a b (y ∷ h) x r e w = cc

-- after an append of nothing, a string is appended
pub puts-after : {E : Type 0} (a b c : Option (List ℕ)) (h h' h'' y : List ℕ)
    (r : Result (Unit {0}) E) → Put a b h h' []
    → Puts b c h' h'' r y → Puts a c h h'' r y
puts-after a b c h h' h'' y (Ok done) p q = put-then a b c h h' h'' [] y p q
puts-after a b c h h' h'' y (Err fault) p q = put-cut a b c h h' [] y p q

-- a string that fits
pub put-fitting : (a : Option (List ℕ)) (h h' x : List ℕ) (fits : Bool) → fits ≡ true
    → h' ≡ (if fits then h ++ x else h) → Put a a h h' x
put-fitting a h h' x true e is = record { sent = []; splits = sym is; appended = appends_nothing a }
put-fitting a h h' x false e is = absurd (false≢true e)

-- a string that does not fit changes nothing
pub same-buffer : (h h' x : List ℕ) (fits : Bool) → fits ≡ false
    → h' ≡ (if fits then h ++ x else h) → h' ≡ h
same-buffer h h' x true e is = absurd (false≢true (sym e))
same-buffer h h' x false e is = is

-- the same with another buffer that has the same bytes
pub puts-same : {E : Type 0} (a b : Option (List ℕ)) (h h' h'' x : List ℕ) (r : Result (Unit {0}) E)
    → h' ≡ h → Puts a b h' h'' r x → Puts a b h h'' r x
puts-same a b h h' h'' x r same p = subst (λ (z : List ℕ). Puts a b z h'' r x) same p

-- the buffer was written
pub put-sent : (a b : Option (List ℕ)) (h h' h'' : List ℕ) → h' ≡ h → Appends a b h' → h'' ≡ []
    → Put a b h h'' []
put-sent a b h h' [] same w e =
    record { sent = h; splits = refl; appended = subst (λ (z : List ℕ). Appends a b z) same w }
put-sent a b h h' (y ∷ ys) same w e = cc

-- only a prefix of the buffer was written
pub cut-sent : (a b : Option (List ℕ)) (h h' x : List ℕ) → h' ≡ h
    → (part : List ℕ) × IsBeginning part h' × Appends a b part → Cut a b h x
cut-sent a b h h' x same w = record {
  sent = w.0;
  begins = (
    w.1.0 ++ x,
    sym (append_assoc w.0 w.1.0 x) ∙ ap (λ (z : List ℕ). z ++ x) (w.1.1 ∙ same),
  );
  appended = w.2;
}

-- a list of strings, split after one of them
flat_map-cut : {X : Type 0} (f : X → List ℕ) (xs : List X) (i : ℕ) (d : X) → i < length xs
    → flat_map f xs ≡ (flat_map f (take i xs) ++ f (get_or xs i d)) ++ flat_map f (drop (suc i) xs)
flat_map-cut f [] i d lt = absurd (omega arith)
flat_map-cut f (x ∷ xs) zero d lt = refl
flat_map-cut f (x ∷ xs) (suc i) d lt =
    ap (λ (z : List ℕ). f x ++ z) (flat_map-cut f xs i d (omega arith))
    ∙ sym (append_assoc (f x) (flat_map f (take i xs) ++ f (get_or xs i d))
    (flat_map f (drop (suc i) xs)))
    ∙ ap (λ (z : List ℕ). z ++ flat_map f (drop (suc i) xs))
    (sym (append_assoc (f x) (flat_map f (take i xs)) (f (get_or xs i d))))

flat_map-on : {X : Type 0} (f : X → List ℕ) (xs : List X) (i : ℕ) (d : X) → i < length xs
    → flat_map f (take (suc i) xs) ≡ flat_map f (take i xs) ++ f (get_or xs i d)
flat_map-on f [] i d lt = absurd (omega arith)
flat_map-on f (x ∷ xs) zero d lt = append-nil (f x)
flat_map-on f (x ∷ xs) (suc i) d lt =
    ap (λ (z : List ℕ). f x ++ z) (flat_map-on f xs i d (omega arith)) ∙ sym
    (append_assoc (f x) (flat_map f (take i xs)) (f (get_or xs i d)))

-- one more of several strings
pub put-next : {X : Type 0} (a b c : Option (List ℕ)) (h h' h'' : List ℕ) (f : X → List ℕ)
    (xs : List X) (i : ℕ) (d : X) → i < length xs
    → Put a b h h' (flat_map f (take i xs)) → Put b c h' h'' (f (get_or xs i d))
    → Put a c h h'' (flat_map f (take (i + 1) xs))
put-next a b c h h' h'' f xs i d lt p q =
    let P : List ℕ → Type 0 = λ z. Put a c h h'' z in
    subst P (sym (ap (λ (n : ℕ). flat_map f (take n xs)) (add-one i) ∙ flat_map-on f xs i d lt))
    (put-then a b c h h' h'' (flat_map f (take i xs)) (f (get_or xs i d)) p q)

-- the string at which the output stopped
pub cut_at : {X : Type 0} (a b c : Option (List ℕ)) (h h' : List ℕ) (f : X → List ℕ) (xs : List X)
    (i : ℕ) (d : X) → i < length xs
    → Put a b h h' (flat_map f (take i xs)) → Cut b c h' (f (get_or xs i d))
    → Cut a c h (flat_map f xs)
cut_at a b c h h' f xs i d lt p q =
    let P : List ℕ → Type 0 = λ z. Cut a c h z in
    subst P (sym (flat_map-cut f xs i d lt))
    (cut-more a c h (flat_map f (take i xs) ++ f (get_or xs i d)) (flat_map f (drop (suc i) xs))
    (put-cut a b c h h' (flat_map f (take i xs)) (f (get_or xs i d)) p q))

-- the same, one byte at a time
pub put-number : (a b c : Option (List ℕ)) (h h' h'' : List ℕ) (f : ℕ → ℕ) (xs : List ℕ) (i : ℕ)
    → i < length xs
    → Put a b h h' (map f (take i xs)) → Put b c h' h'' (f (get_or xs i 0) ∷ [])
    → Put a c h h'' (map f (take (i + 1) xs))
put-number a b c h h' h'' f xs i lt p q =
    let P : List ℕ → Type 0 = λ z. Put a b h h' z in
    let Q : List ℕ → Type 0 = λ z. Put a c h h'' z in
    subst Q (flat_map_single f (take (i + 1) xs))
    (put-next a b c h h' h'' (λ x. f x ∷ []) xs i 0 lt
    (subst P (sym (flat_map_single f (take i xs))) p) q)

pub cut_at-number : (a b c : Option (List ℕ)) (h h' : List ℕ) (f : ℕ → ℕ) (xs : List ℕ) (i : ℕ)
    → i < length xs
    → Put a b h h' (map f (take i xs)) → Cut b c h' (f (get_or xs i 0) ∷ []) → Cut a c h (map f xs)
cut_at-number a b c h h' f xs i lt p q =
    let P : List ℕ → Type 0 = λ z. Put a b h h' z in
    let Q : List ℕ → Type 0 = λ z. Cut a c h z in
    subst Q (flat_map_single f xs)
    (cut_at a b c h h' (λ x. f x ∷ []) xs i 0 lt (subst P (sym (flat_map_single f (take i xs))) p)
    q)

pub puts-then : {E : Type 0} (a b c : Option (List ℕ)) (h h' h'' x y : List ℕ)
    (r : Result (Unit {0}) E) → Put a b h h' x
    → Puts b c h' h'' r y → Puts a c h h'' r (x ++ y)
puts-then a b c h h' h'' x y (Ok done) p q = put-then a b c h h' h'' x y p q
puts-then a b c h h' h'' x y (Err fault) p q = put-cut a b c h h' x y p q

-- a string was appended to an empty buffer, and then the buffer was written
pub writes-all : {E : Type 0} (a b c : Option (List ℕ)) (h text : List ℕ) (r : Result (Unit {0}) E)
    → Put a b [] h text → Writes b c r h
    → Writes a c r text
writes-all a b c h text (Ok done) p w =
    let P : List ℕ → Type 0 = λ z. Appends a c z in
    subst P (sym p.splits) (appends_then a b c p.sent h p.appended w)
writes-all a b c h text (Err fault) p w = (
  p.sent ++ w.0,
  (w.1.0, append_assoc p.sent w.0 w.1.0 ∙ ap (λ (z : List ℕ). p.sent ++ z) w.1.1 ∙ sym p.splits),
  appends_then a b c
      p.sent w.0 p.appended w.2,
)

-- a string without control characters
pub all-printable : (text : List ℕ) → list_all (λ byte. not (is_control byte)) text ≡ true
    → text ≡ map printable text
all-printable [] h = refl
all-printable (byte ∷ text) h = at (is_control byte) refl h (all-printable text)
  where
    at : (v : Bool) → is_control byte ≡ v → (not v && list_all (λ b. not (is_control b)) text)
        ≡ true
        → (list_all (λ b. not (is_control b)) text ≡ true → text ≡ map printable text)
        → byte ∷ text ≡ map printable (byte ∷ text)
    at true e k rest = absurd (false≢true k)
    at false e k rest = rw e (ap (λ (z : List ℕ). byte ∷ z) (rest k))

-- a string replaced by an equal one
pub cut-as : (a b : Option (List ℕ)) (h x y : List ℕ) → x ≡ y → Cut a b h x → Cut a b h y
cut-as a b h x y e p = subst (λ (z : List ℕ). Cut a b h z) e p

pub put-as : (a b : Option (List ℕ)) (h h' x y : List ℕ) → x ≡ y → Put a b h h' x → Put a b h h' y
put-as a b h h' x y e p = subst (λ (z : List ℕ). Put a b h h' z) e p

pub puts-as : {E : Type 0} (a b : Option (List ℕ)) (h h' x y : List ℕ) (r : Result (Unit {0}) E)
    → x ≡ y → Puts a b h h' r x
    → Puts a b h h' r y
puts-as a b h h' x y r e p = subst (λ (z : List ℕ). Puts a b h h' r z) e p
