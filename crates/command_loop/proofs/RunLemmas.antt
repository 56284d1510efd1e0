-- A run from its start: the object of the command line, and then addresses or lines.
use Rattle.std.proofs.Common.{◌≡◌, ℕ, Bool, true, false, List, [], ◌∷◌, ◌++◌, length, map, sym, ◌∙◌}
use Rattle.std.proofs.Common.{ap, subst, refl, arith}
use Rattle.std.proofs.lemmas.Bool.{true≢false, ne_eqb}
use Rattle.std.specs.Prelude.{◌==◌, Option, Result, Ok, Err, OnOk}
use Rattle.std.specs.Option.{option_to_list}
use Rattle.std.specs.Io.KnownBytes.{Consumes}
use Rattle.io_streams.specs.declared.options.Options.{Options}
use Rattle.command_loop.proofs.RequestLemmas.{asked-then}
use Rattle.command_loop.specs.declared.commands.BadLine.{BadLine}
use Rattle.io_streams.specs.declared.faults.RunFault.{RunFault}
use Rattle.io_streams.specs.declared.faults.RunFault.TheVariants.{Reading, Writing}
use Rattle.command_loop.specs.Lines.{lines, ended_lines}
use Rattle.command_loop.specs.Requests.{Request, requests}
use Rattle.command_loop.specs.Output.{Requests, Exchanges, ask_of, Answers, StoppedAt, ServedBy}
use Rattle.command_loop.specs.Output.{StoppedBy, questions}
use Rattle.command_loop.specs.Private.Progress.{RunState, state_of, ServedInOrder}
use Rattle.command_loop.specs.Private.Progress.{StopsAtRequest, StopsAmong, ReadsLines}
use Rattle.command_loop.specs.Private.Progress.{HasStarted}

pub answers-of : (options : Options) (exe : Option (List ℕ)) (asked : Exchanges)
    (start now : RunState) (rs : Requests)
    → HasStarted exe asked start.asked start.world → ServedInOrder options start rs now
    → Answers options exe rs asked now.asked start.written now.written
answers-of options exe asked start now rs b h = record {
  first = b.first;
  others = h.outcomes;
  world = start.world;
  starts = b.starts;
  one = b.one;
  answered = asked-then asked start.asked now.asked (option_to_list exe) (questions rs) b.first
      h.outcomes b.answered h.answered;
  replied = h.replied;
}

pub stop-of : (options : Options) (exe : Option (List ℕ)) (asked asked' : Exchanges)
    (written : Option (List ℕ)) (start : RunState)
    (before : Requests) (request : Result Request BadLine)
    → HasStarted exe asked start.asked start.world
    → StopsAtRequest options start before request asked' written
    → StoppedAt options exe before request asked asked' start.written written
stop-of options exe asked asked' written start before request b h = record {
  first = b.first;
  others = h.outcomes;
  world = start.world;
  starts = b.starts;
  one = b.one;
  answered =
      asked-then asked start.asked asked' (option_to_list exe)
      (questions (before ++ request ∷ [])) b.first h.outcomes b.answered h.answered;
  part = h.part;
  begins = h.begins;
  replied = h.replied;
}

-- ---- lines

pub lines-served : (options : Options) (exe : Option (List ℕ)) (asked asked' : Exchanges)
    (written left left' : Option (List ℕ))
    (start : RunState) (words : Requests) (r : Result (Unit {0}) RunFault) → words ≡ []
    → HasStarted exe asked start.asked start.world
    → ReadsLines options start left left' asked' written r
    → OnOk r (ServedBy words left left' (λ rs. Answers options exe rs asked asked' start.written
    written))
lines-served options exe asked asked' written left left' start words (Err why) e b h = tt
lines-served options exe asked asked' written left left' start words (Ok done) e b h =
    let P : Requests → Type 0 = λ z. ServedBy z left left'
    (λ rs. Answers options exe rs asked asked' start.written written) in
    subst P (sym e) (
      h.0,
      h.1,
      h.2,
      answers-of options exe asked start
          (state_of h.3.0 asked' written)
          (requests (lines h.0)) b h.3.1,
    )

pub lines-reading : (options : Options) (exe : Option (List ℕ)) (asked asked' : Exchanges)
    (written left left' : Option (List ℕ))
    (start : RunState) (words : Requests) (r : Result (Unit {0}) RunFault) → words ≡ []
    → HasStarted exe asked start.asked start.world
    → ReadsLines options start left left' asked' written r → r ≡ Err Reading
    → (words ≡ []) × ((read : List ℕ) × Consumes left left' read
    × Answers options exe (requests (ended_lines read)) asked asked' start.written written)
lines-reading options exe asked asked' written left left' start words r e b h is =
    let P : Result (Unit {0}) RunFault → Type 0 =
    λ z. ReadsLines options start left left' asked' written z in
    let k = subst P is h in (
      e,
      (
        k.0,
        k.1,
        answers-of options exe asked start
            (state_of k.2.0 asked' written)
            (requests (ended_lines k.0)) b k.2.1,
      ),
    )

pub lines-writing : (options : Options) (exe : Option (List ℕ)) (asked asked' : Exchanges)
    (written left left' : Option (List ℕ))
    (start : RunState) (words : Requests) (r : Result (Unit {0}) RunFault) → words ≡ []
    → HasStarted exe asked start.asked start.world
    → ReadsLines options start left left' asked' written r → r ≡ Err Writing
    → StoppedBy words left left' (λ before request. StoppedAt options exe before request asked
    asked' start.written written)
lines-writing options exe asked asked' written left left' start words r e b h is =
    let P : Result (Unit {0}) RunFault → Type 0 =
    λ z. ReadsLines options start left left' asked' written z in
    let Q : Requests → Type 0 =
    λ z. StoppedBy z left left' (λ before request. StoppedAt options exe before request asked asked'
    start.written written) in
    let k = subst P is h in
    let s = k.5 in
    subst Q (sym e) (
      k.0,
      k.1,
      s.before,
      s.line,
      k.2,
      k.3,
      k.4,
      s.ends,
      stop-of options exe asked asked' written start
          (requests s.before) _ b s.halts,
    )

-- ---- addresses of the command line

no-word : (xs : List ℕ) → (length xs == 0) ≡ true → xs ≡ []
no-word [] e = refl
no-word (x ∷ xs) e = absurd (true≢false (sym e
    ∙ ne_eqb (length (x ∷ xs)) 0 (λ h. omega (arith, h))))

pub no_words : (items xs : List ℕ) (b : Bool) → xs ≡ items → b ≡ (length xs == 0) → b ≡ true
    → map ask_of items ≡ []
no_words items xs b same e f = ap (map ask_of) (sym same ∙ no-word xs (sym e ∙ f))

pub some-words : (xs : List ℕ) (b : Bool) → b ≡ (length xs == 0) → b ≡ false → map ask_of xs ≡ []
    → ⊥
some-words [] b e f h = true≢false (sym e ∙ f)
some-words (x ∷ xs) b e f h = cc

pub words-served : (options : Options) (exe : Option (List ℕ)) (asked : Exchanges)
    (left left' : Option (List ℕ)) (start now : RunState)
    (words : Requests) → (words ≡ [] → ⊥)
    → HasStarted exe asked start.asked start.world → ServedInOrder options start words now
    → left' ≡ left
    → ServedBy words left left' (λ rs. Answers options exe rs asked now.asked start.written
    now.written)
words-served options exe asked left left' start now [] ne b h same = absurd (ne refl)
words-served options exe asked left left' start now (word ∷ words) ne b h same =
    (answers-of options exe asked start now (word ∷ words) b h, same)

pub words-stop : (options : Options) (exe : Option (List ℕ)) (asked asked' : Exchanges)
    (written left left' : Option (List ℕ))
    (start : RunState) (words : Requests) → (words ≡ [] → ⊥)
    → HasStarted exe asked start.asked start.world → StopsAmong options start words asked' written
    → left' ≡ left
    → StoppedBy words left left' (λ before request. StoppedAt options exe before request asked
    asked' start.written written)
words-stop options exe asked asked' written left left' start [] ne b h same = absurd (ne refl)
words-stop options exe asked asked' written left left' start (word ∷ words) ne b h same =
    (h.0, h.1, h.2, h.3, stop-of options exe asked asked' written start h.0 h.2 b h.4, same)

pub words-served-at : (options : Options) (exe : Option (List ℕ)) (asked : Exchanges)
    (left : Option (List ℕ)) (start now : RunState)
    (items xs : List ℕ) (b : Bool) → xs ≡ items → b ≡ (length xs == 0) → b ≡ false
    → HasStarted exe asked start.asked start.world → ServedInOrder options start (map ask_of xs) now
    → ServedBy (map ask_of items) left left
    (λ rs. Answers options exe rs asked now.asked start.written now.written)
words-served-at options exe asked left start now items xs b same e f starts h =
    let P : List ℕ → Type 0 =
    λ z. ServedBy (map ask_of z) left left
    (λ rs. Answers options exe rs asked now.asked start.written now.written) in
    subst P same (words-served options exe asked left left start now (map ask_of xs)
    (some-words xs b e f) starts h refl)

pub words-stop-at : (options : Options) (exe : Option (List ℕ)) (asked asked' : Exchanges)
    (written left : Option (List ℕ))
    (start : RunState) (items xs : List ℕ) (b : Bool) → xs ≡ items → b ≡ (length xs == 0)
    → b ≡ false
    → HasStarted exe asked start.asked start.world
    → StopsAmong options start (map ask_of xs) asked' written
    → StoppedBy (map ask_of items) left left
    (λ before request. StoppedAt options exe before request asked asked' start.written written)
words-stop-at options exe asked asked' written left start items xs b same e f starts h =
    let P : List ℕ → Type 0 =
    λ z. StoppedBy (map ask_of z) left left
    (λ before request. StoppedAt options exe before request asked asked' start.written written) in
    subst P same (words-stop options exe asked asked' written left left start (map ask_of xs)
    (some-words xs b e f) starts h refl)
