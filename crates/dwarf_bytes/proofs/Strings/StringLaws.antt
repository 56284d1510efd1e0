-- A string is read if it is at the offset with its NUL. Without a NUL the read fails.
use Rattle.std.proofs.Common.{◌≡◌, ℕ, suc, ◌+◌, ◌<◌, ◌≤◌, Bool, true, false, not, cond, ltb, eqb}
use Rattle.std.proofs.Common.{List, [], ◌∷◌, ◌++◌, length, drop, take, get_or, Some, None, Result}
use Rattle.std.proofs.Common.{Ok, Err, ap, sym, refl, subst, ◌∙◌, arith, length-append, length-take}
use Rattle.std.proofs.Common.{append_assoc}
use Rattle.std.specs.Prelude.{All, ◌≢◌}
use Rattle.std.specs.List.{prefix_len}
use Rattle.std.specs.Option.{option_map, option_map_or}
use Rattle.std.proofs.lemmas.Bool.{ltb-false, ltb-true, lt-ltb, ne_eqb, eqb-false, eqb-true}
use Rattle.std.proofs.lemmas.List.{take_at, take-append-drop, get_or-take}
use Rattle.std.proofs.lemmas.List.Elements.{All-head, All-tail}
use Rattle.std.proofs.lemmas.List.Sums.{prefix_len_passes, prefix_len_stops}
use Rattle.std.proofs.Math.Seq.{take-suc}
use Rattle.dwarf_bytes.specs.declared.fault.ReadFault.{ReadFault}
use Rattle.dwarf_bytes.specs.declared.fault.ReadFault.TheVariants.{Unterminated}
use Rattle.dwarf_bytes.specs.Numbers.{IsText, IsEncodedAt, text_front, cstr_at}

abbrev is_text_byte : ℕ → Bool
is_text_byte b = not (eqb b 0)

-- the number of bytes before the first NUL
abbrev text_len : List ℕ → ℕ
text_len bytes = prefix_len is_text_byte bytes

abbrev pub HasNoNul : List ℕ → Type 0
HasNoNul bytes = All (λ byte. byte ≢ 0) bytes

passes-ne : (b : ℕ) → is_text_byte b ≡ true → b ≢ 0
passes-ne b h = eqb-false b 0 (by (eqb b 0) h)
  where
    by : (t : Bool) → not t ≡ true → t ≡ false
    by true h = absurd cc
    by false h = refl

stops-zero : (b : ℕ) → is_text_byte b ≡ false → b ≡ 0
stops-zero b h = eqb-true b 0 (by (eqb b 0) h)
  where
    by : (t : Bool) → not t ≡ false → t ≡ true
    by true h = refl
    by false h = absurd cc

-- no byte before the first NUL is a NUL
no-nul-before : (bytes : List ℕ) (n : ℕ) → n ≤ text_len bytes → HasNoNul (take n bytes)
no-nul-before bytes n le k d lt =
    let below : k < n = let size = length-take n bytes in omega (arith, size) in
    let here : get_or bytes k d ≢ 0 = passes-ne _
    (prefix_len_passes is_text_byte bytes k d (omega arith)) in
    rw (get_or-take n bytes k d below) here

-- a string and its NUL at the start of the bytes
front-len : (text rest : List ℕ) → HasNoNul text → text_len (text ++ 0 ∷ rest) ≡ length text
front-len [] rest h = refl
front-len (b ∷ text) rest h =
    let more = front-len text rest (All-tail (λ (byte : ℕ). byte ≢ 0) b text h) in
    let here : eqb b 0 ≡ false = ne_eqb b 0 (All-head (λ (byte : ℕ). byte ≢ 0) b text h) in
    rw here (omega (arith, more))

-- bytes without a NUL
none-len : (bytes : List ℕ) → HasNoNul bytes → ltb (text_len bytes) (length bytes) ≡ false
none-len bytes h = by (ltb (text_len bytes) (length bytes)) refl
  where
    by : (t : Bool) → ltb (text_len bytes) (length bytes) ≡ t → t ≡ false
    by false is = refl
    by true is =
        let lt = ltb-true _ _ is in
        absurd (h (text_len bytes) 0 lt (stops-zero _ (prefix_len_stops is_text_byte bytes 0 lt)))

same-text : (x y : List ℕ × ℕ) → (let f : List ℕ × ℕ → Result (List ℕ × ℕ) ReadFault = λ z. Ok z in
    f x ≡ f y) → x ≡ y
same-text x y h = cc

-- the result of reading a string, by whether a NUL follows
abbrev text_by : Bool → ℕ → List ℕ → ℕ → Result (List ℕ × ℕ) ReadFault
text_by found n bytes at =
    option_map_or (λ text. Ok (text, at + length text + 1))
    (option_map (λ k. take k bytes) (cond found (Some n) None))
    (Err Unterminated)

encoded-by : (found : Bool) (bytes rest : List ℕ) (at : ℕ) (text : List ℕ) (next : ℕ)
    → rest ≡ drop at bytes
    → ltb (text_len rest) (length rest) ≡ found → text_by found (text_len rest) rest at
    ≡ Ok (text, next)
    → IsEncodedAt IsText bytes at text next
encoded-by false bytes rest at text next same test e = absurd cc
encoded-by true bytes rest at text next same test e =
    let lt = ltb-true _ _ test in
    let n = text_len rest in
    let pairs = same-text (take n rest, at + length (take n rest) + 1) (text, next) e in
    let text_is : take n rest ≡ text = ap (λ (p : List ℕ × ℕ). p.0) pairs in
    let nul : get_or rest n 0 ≡ 0 = stops-zero _ (prefix_len_stops is_text_byte rest 0 lt) in
    let whole : take (suc n) rest ≡ text ++ 0 ∷ [] =
    take-suc rest n 0 lt ∙ ap (λ (b : ℕ). take n rest ++ b ∷ []) nul
    ∙ ap (λ (t : List ℕ). t ++ 0 ∷ []) text_is in
    record {
      front = text ++ 0 ∷ [];
      rest = drop (suc n) rest;
      encoded = (refl, subst HasNoNul text_is (no-nul-before rest n (omega arith)));
      parts = sym same ∙ sym (take-append-drop (suc n) rest)
          ∙ ap (λ (t : List ℕ). t ++ drop (suc n) rest) whole;
      next_is = ap (λ (p : List ℕ × ℕ). p.1) (sym pairs) ∙ ap (λ (t : List ℕ). at + length t + 1)
          text_is
          ∙ omega (arith, length-append text (0 ∷ []));
    }

pub text-encoded : (bytes : List ℕ) (at : ℕ) (text : List ℕ) (next : ℕ)
    → cstr_at bytes at ≡ Ok (text, next)
    → IsEncodedAt IsText bytes at text next
unfolding cstr_at text_front
text-encoded bytes at text next e =
    encoded-by (ltb (text_len (drop at bytes)) (length (drop at bytes))) bytes (drop at bytes) at
    text next refl refl e

pub text-again : (bytes : List ℕ) (at : ℕ) (text : List ℕ) (next : ℕ)
    → IsEncodedAt IsText bytes at text next
    → cstr_at bytes at ≡ Ok (text, next)
unfolding cstr_at text_front
text-again bytes at text next s =
    let parts : drop at bytes ≡ text ++ 0 ∷ s.rest =
    s.parts ∙ ap (λ (t : List ℕ). t ++ s.rest) s.encoded.0 ∙ append_assoc text (0 ∷ []) s.rest in
    let len = front-len text s.rest s.encoded.1 in
    let there : ltb (length text) (length (text ++ 0 ∷ s.rest)) ≡ true =
    lt-ltb _ _ (omega (arith, length-append text (0 ∷ s.rest))) in
    let next' : at + length text + 1 ≡ next =
    omega (arith, s.next_is, ap length s.encoded.0, length-append text (0 ∷ [])) in
    rw (parts, len, there, take_at text (0 ∷ s.rest) (length text) refl)
    (ap (λ (n : ℕ). Ok (text, n)) next')

missing-by : (found : Bool) (rest : List ℕ) (at : ℕ) (fault : ReadFault)
    → ltb (text_len rest) (length rest) ≡ found
    → text_by found (text_len rest) rest at ≡ Err fault → (fault ≡ Unterminated) × HasNoNul rest
missing-by true rest at fault test e = absurd cc
missing-by false rest at fault test e =
    let le = ltb-false _ _ test in
    (cc, λ k d lt. passes-ne _ (prefix_len_passes is_text_byte rest k d (omega arith)))

pub text-missing : (bytes : List ℕ) (at : ℕ) (fault : ReadFault) → cstr_at bytes at ≡ Err fault
    → (fault ≡ Unterminated)
    × HasNoNul (drop at bytes)
unfolding cstr_at text_front
text-missing bytes at fault e =
    missing-by (ltb (text_len (drop at bytes)) (length (drop at bytes))) (drop at bytes) at fault
    refl e

pub text-missing-again : (bytes : List ℕ) (at : ℕ) (fault : ReadFault) → (fault ≡ Unterminated)
    × HasNoNul (drop at bytes) → cstr_at bytes at ≡ Err fault
unfolding cstr_at text_front
text-missing-again bytes at fault h = rw (none-len (drop at bytes) h.1)
    (ap (λ (f : ReadFault). Err f) (sym h.0))
