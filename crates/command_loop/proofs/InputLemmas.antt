-- A run from its first read to its end.
use Rattle.std.proofs.Common.{◌≡◌, ℕ, ◌≤◌, true, false, List, [], ◌∷◌, ◌++◌, length, take, refl}
use Rattle.std.proofs.Common.{sym, ◌∙◌, ap, subst, append_assoc, append-nil, length-append, arith}
use Rattle.std.specs.Prelude.{Option, None, Some, Result, Ok, Err, OnOk, OnErr, is_err, filter}
use Rattle.std.specs.Io.KnownBytes.{Consumes, IsAtEnd}
use Rattle.std.proofs.lemmas.Bool.{false≢true, true≢false}
use Rattle.module_map.specs.World.{World}
use Rattle.io_streams.specs.Streams.{failures_after}
use Rattle.io_streams.specs.declared.options.Options.{Options}
use Rattle.command_loop.proofs.LineLemmas.{lines-are, ended_at-feed, open-at-feed}
use Rattle.command_loop.proofs.RequestLemmas.{handled-none, handled-as}
use Rattle.command_loop.specs.Lines.{has_bytes, lines, ended_lines, open_line}
use Rattle.command_loop.specs.Requests.{requests}
use Rattle.command_loop.specs.Output.{Exchanges, EndsLine}
use Rattle.command_loop.specs.Private.Progress.{RunState, state_of, ServedInOrder, ReadSoFar}
use Rattle.command_loop.specs.Private.Progress.{StopsAtLine, ReadsOn, StopsWithin}

pub on_err_at : {T E P : Type 0} (r : Result T E) → is_err r ≡ true → OnErr r P → P
on_err_at (Ok x) e h = absurd (false≢true e)
on_err_at (Err x) e h = h

pub on_ok_at : {T E P : Type 0} (r : Result T E) → is_err r ≡ false → OnOk r P → P
on_ok_at (Ok x) e h = h
on_ok_at (Err x) e h = absurd (true≢false e)

pub consumes-then : (a b c : Option (List ℕ)) (xs ys : List ℕ) → Consumes a b xs → Consumes b c ys
    → Consumes a c (xs ++ ys)
consumes-then None b c xs ys h k = tt
consumes-then (Some a) None c xs ys h k = absurd h
consumes-then (Some a) (Some b) None xs ys h k = absurd k
consumes-then (Some a) (Some b) (Some c) xs ys h k = h ∙ ap (λ (z : List ℕ). xs ++ z) k
    ∙ sym (append_assoc xs ys c)

pub consumes-nothing : (a : Option (List ℕ)) → Consumes a a []
consumes-nothing None = tt
consumes-nothing (Some a) = refl

-- the input so far, and the state after it
abbrev pub HasRead : Options → RunState → Option (List ℕ) → Option (List ℕ) → RunState
    → Option (List ℕ) → Type 0
HasRead options start a b now buffer = (read : List ℕ) × Consumes a b read
    × ReadSoFar options start read now buffer

pub reads-nothing : (options : Options) (start now : RunState) (a : Option (List ℕ))
    (buffer : Option (List ℕ)) → now.world ≡ start.world
    → now.asked ≡ start.asked → now.written ≡ start.written
    → buffer ≡ Some [] → HasRead options start a a now buffer
unfolding ended_lines open_line
reads-nothing options start now a buffer w q t h =
    ([], consumes-nothing a, record { handled = handled-none options start now w q t; holds = h })

pub reads-on : (options : Options) (start now new : RunState)
    (a b c buffer buffer' : Option (List ℕ)) (more : List ℕ)
    → HasRead options start a b now buffer → Consumes b c more
    → ReadsOn options more now buffer new buffer' → HasRead options start a c new buffer'
reads-on options start now new a b c buffer buffer' more h k on =
    (h.0 ++ more, consumes-then a b c h.0 more h.1 k, on start h.0 h.2)

-- the last read returns no bytes
pub reads-no_more : (options : Options) (start now : RunState) (a b c buffer : Option (List ℕ))
    (piece : List ℕ) (n : ℕ) → n ≡ 0
    → HasRead options start a b now buffer → Consumes b c (take n piece)
    → HasRead options start a c now buffer
reads-no_more options start now a b c buffer piece n none h k =
    let P : List ℕ → Type 0 = λ z. Consumes b c z in
    let Q : List ℕ → Type 0 = λ z. Consumes a c z in (
      h.0,
      subst Q (append-nil h.0) (consumes-then a b c h.0 [] h.1
          (subst P (ap (λ (z : ℕ). take z piece) none) k)),
      h.2,
    )

-- a stop within a piece
pub reads-and-breaks : (options : Options) (start now : RunState) (asked : Exchanges)
    (written : Option (List ℕ))
    (a b c buffer : Option (List ℕ)) (piece : List ℕ) → HasRead options start a b now buffer
    → Consumes b c piece
    → length piece ≤ 4096 → StopsWithin options piece now buffer asked written
    → (read after : List ℕ) × Consumes a c (read ++ after) × (length after ≤ 4096)
    × EndsLine after c × StopsAtLine options start read asked written
reads-and-breaks options start now asked written a b c buffer piece h k fits on =
    let w = on start h.0 h.2 in
    let P : List ℕ → Type 0 = λ z. Consumes a c z in (
      h.0 ++ w.0,
      w.1,
      subst P (ap (λ (z : List ℕ). h.0 ++ z) w.2 ∙ sym (append_assoc h.0 w.0 w.1))
          (consumes-then a b c h.0 piece h.1 k),
      omega (arith, ap length w.2, length-append w.0 w.1),
      (let E : List ℕ → Type 0 = λ z. EndsLine z c in subst E (sym w.3.1) refl),
      w.4,
    )

pub ends-well : (options : Options) (start now new : RunState)
    (a b buffer buffer' : Option (List ℕ))
    → HasRead options start a b now buffer
    → IsAtEnd b
    → ReadsOn options (10 ∷ []) now buffer new buffer' → (input : List ℕ) × Consumes a b input
    × IsAtEnd b
    × ((world : World) × ServedInOrder options start (requests (lines input))
    (state_of world new.asked new.written))
ends-well options start now new a b buffer buffer' h end on =
    let r = on start h.0 h.2 in
    let same : ended_lines (h.0 ++ 10 ∷ []) ≡ lines h.0 = ended_at-feed h.0 ∙ sym (lines-are h.0) in
    (h.0, h.1, end, (new.world, handled-as options start new _ _ (ap requests same) r.handled))

nil-of-length : (xs : List ℕ) → length xs ≡ 0 → xs ≡ []
nil-of-length [] e = refl
nil-of-length (x ∷ xs) e = absurd (omega (arith, e))

-- a stop at the end of input
pub ends-badly : (options : Options) (start now : RunState) (asked : Exchanges)
    (written : Option (List ℕ)) (a b buffer : Option (List ℕ))
    → HasRead options start a b now buffer → IsAtEnd b
    → StopsWithin options (10 ∷ []) now buffer asked written
    → (read after : List ℕ) × Consumes a b (read ++ after) × (length after ≤ 4096)
    × EndsLine after b × StopsAtLine options start read asked written
ends-badly options start now asked written a b buffer h end on =
    let w = on start h.0 h.2 in
    let none-more : w.0 ≡ [] = nil-of-length w.0
    (omega (arith, ap length w.2, length-append w.0 w.1, ap length w.3.1)) in
    let P : List ℕ → Type 0 = λ z. Consumes a b z in
    let Q : List ℕ → Type 0 = λ z. StopsAtLine options start z asked written in (
      h.0,
      [],
      subst P (sym (append-nil h.0)) h.1,
      omega arith,
      end,
      subst Q (ap (λ (z : List ℕ). h.0 ++ z) none-more ∙ append-nil h.0) w.4,
    )

pub failures-at-ok : {T E : Type 0} (n : ℕ) (r : Result T E) → is_err r ≡ false
    → failures_after n r ≡ n
failures-at-ok n (Ok x) e = refl
failures-at-ok n (Err x) e = absurd (true≢false e)
