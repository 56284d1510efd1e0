-- Lines that are served as they are read.
use Rattle.std.proofs.Common.{◌≡◌, ◌≢◌, ℕ, ◌+◌, ◌-◌, ◌<◌, suc, List, [], ◌∷◌, ◌++◌, length, take}
use Rattle.std.proofs.Common.{drop, get_or, take-append-drop, drop-cons, refl, sym, ◌∙◌, ap, subst}
use Rattle.std.proofs.Common.{append_assoc, append-nil, length-take, arith}
use Rattle.std.specs.Prelude.{Option, None, Some}
use Rattle.std.proofs.lemmas.Bool.{eqb-true}
use Rattle.std.proofs.lemmas.List.{get_or-take, take_all, length-drop}
use Rattle.io_streams.specs.declared.options.Options.{Options}
use Rattle.command_loop.proofs.LineLemmas.{HasNoFeed}
use Rattle.bstr.specs.Find.{IsFirstByte, is_byte}
use Rattle.command_loop.specs.Lines.{longer}
use Rattle.command_loop.specs.Output.{Exchanges}
use Rattle.command_loop.specs.Private.Progress.{RunState, ReadSoFar, ReadsOn, StopsWithin}
use Rattle.command_loop.proofs.ReadLemmas.{continues-bytes, breaks-then, breaks-before}
use Rattle.command_loop.proofs.ReadLemmas.{continues-then}

-- a piece that was processed up to some byte, and the rest of it
pub record ServedTo (options : Options) (piece rest : List ℕ) (a : RunState) (ha : Option (List ℕ))
    (b : RunState)
    (hb : Option (List ℕ)) : Type 0 where
  pub front : List ℕ
  pub cut : piece ≡ front ++ rest
  pub reads : ReadsOn options front a ha b hb

pub served-none : (options : Options) (piece : List ℕ) (a : RunState) (ha : Option (List ℕ))
    → ServedTo options piece piece a ha a ha
served-none options piece a ha = record {
  front = [];
  cut = refl;
  reads = λ start read r. let P : List ℕ → Type 0 = λ z. ReadSoFar options start z a ha in
      subst P (sym (append-nil read)) r;
}

-- the first line feed, as a search returns it
pub no-feed : (bytes : List ℕ) (found : Option ℕ) → found ≡ None
    → IsFirstByte (is_byte 10) bytes found → HasNoFeed bytes
no-feed bytes None is nowhere k lt e = nowhere k (omega arith) lt (rw e refl)
no-feed bytes (Some end) is first k lt e = cc

-- the bytes before a line feed, and the bytes after it
pub record CutAtFeed (bytes : List ℕ) (end : ℕ) : Type 0 where
  pub none : HasNoFeed (take end bytes)
  pub cut : bytes ≡ take end bytes ++ 10 ∷ drop (end + 1) bytes

pub cut_at-feed : (bytes : List ℕ) (found : Option ℕ) (end : ℕ) → found ≡ Some end
    → IsFirstByte (is_byte 10) bytes found
    → CutAtFeed bytes end
cut_at-feed bytes None end is nowhere = cc
cut_at-feed bytes (Some index) end is first =
    let there : index ≡ end = some-is index end is in
    let P : ℕ → Type 0 = λ z. CutAtFeed bytes z in
    subst P there (at_place bytes index first.0.high (eqb-true (get_or bytes index 0) 10 first.1)
    (λ k lt e.
    first.0.before k (omega arith) lt (rw e refl)))
  where
    some-is : (a b : ℕ) → Some a ≡ Some b → a ≡ b
    some-is a b e = cc

    at_place : (bytes : List ℕ) (index : ℕ) → index < length bytes → get_or bytes index 0 ≡ 10
        → ((k : ℕ) → k < index → get_or bytes k 0 ≢ 10) → CutAtFeed bytes index
    at_place bytes index lt is none = record {
      none = λ k below e.
          let within : k < index = omega (arith, below, length-take index bytes) in
          none k within (sym (get_or-take index bytes k 0 within) ∙ e);
      cut = sym (take-append-drop index bytes) ∙ ap (λ (z : List ℕ). take index bytes ++ z)
          (drop-cons bytes index 0 lt ∙ ap (λ (z : ℕ). z ∷ drop (suc index) bytes) is
          ∙ ap (λ (n : ℕ). 10 ∷ drop n bytes) {x = suc index} {y = index + 1} (omega arith));
    }

-- the lines of a piece, up to the next line feed
pub serves-line : (options : Options) (piece rest : List ℕ) (end : ℕ) (a b c : RunState)
    (ha hb hc : Option (List ℕ))
    → CutAtFeed rest end → ServedTo options piece rest a ha b hb
    → ReadsOn options (10 ∷ []) b (longer hb (take end rest)) c hc
    → ServedTo options piece (take (length rest - (end + 1)) (drop (end + 1) rest)) a ha c hc
serves-line options piece rest end a b c ha hb hc f s k =
    let line : List ℕ = take end rest in
    let after : List ℕ = drop (end + 1) rest in
    let rest-is : take (length rest - (end + 1)) after ≡ after =
    take_all (length rest - (end + 1)) after (omega (arith, length-drop (end + 1) rest)) in
    record {
      front = s.front ++ (line ++ 10 ∷ []);
      cut = s.cut ∙ ap (λ (z : List ℕ). s.front ++ z)
          (f.cut ∙ sym (append_assoc line (10 ∷ []) after))
          ∙ sym (append_assoc s.front (line ++ 10 ∷ []) after)
          ∙ ap (λ (z : List ℕ). (s.front ++ (line ++ 10 ∷ [])) ++ z) (sym rest-is);
      reads = continues-then options a b c ha hb hc s.front (line ++ 10 ∷ []) s.reads
          (continues-then options b b c hb (longer hb line) hc line (10 ∷ [])
          (continues-bytes options b hb line f.none) k);
    }

-- a stop at the next line feed
pub breaks-at-line : (options : Options) (piece rest : List ℕ) (end : ℕ) (a b : RunState)
    (ha hb : Option (List ℕ))
    (asked : Exchanges) (written : Option (List ℕ)) → CutAtFeed rest end
    → ServedTo options piece rest a ha b hb
    → StopsWithin options (10 ∷ []) b (longer hb (take end rest)) asked written
    → StopsWithin options piece a ha asked written
breaks-at-line options piece rest end a b ha hb asked written f s k =
    let line : List ℕ = take end rest in
    let after : List ℕ = drop (end + 1) rest in
    let whole : (s.front ++ line) ++ (10 ∷ [] ++ after) ≡ piece =
    append_assoc s.front line (10 ∷ after)
    ∙ sym (s.cut ∙ ap (λ (z : List ℕ). s.front ++ z) f.cut) in
    let P : List ℕ → Type 0 = λ z. StopsWithin options z a ha asked written in
    subst P whole (breaks-then options a b ha (longer hb line) asked written (s.front ++ line)
    (10 ∷ [] ++ after)
    (continues-then options a b b ha hb (longer hb line) s.front line s.reads
    (continues-bytes options b hb line f.none))
    (breaks-before options b (longer hb line) asked written (10 ∷ []) after k))

-- the rest of a piece, without a line feed
pub serves-rest : (options : Options) (piece rest : List ℕ) (a b : RunState)
    (ha hb : Option (List ℕ)) → HasNoFeed rest
    → ServedTo options piece rest a ha b hb → ReadsOn options piece a ha b (longer hb rest)
serves-rest options piece rest a b ha hb none s =
    let P : List ℕ → Type 0 = λ z. ReadsOn options z a ha b (longer hb rest) in
    subst P (sym s.cut) (continues-then options a b b ha hb (longer hb rest) s.front rest s.reads
    (continues-bytes options b hb rest none))
