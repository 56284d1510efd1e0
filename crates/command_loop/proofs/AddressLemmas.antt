-- Requests of addresses of the command line, in order.
use Rattle.std.proofs.Common.{◌≡◌, ℕ, ◌+◌, ◌<◌, ◌≤◌, zero, suc, List, [], ◌∷◌, ◌++◌, length, map}
use Rattle.std.proofs.Common.{take, drop, get_or, take-append-drop, take-add, drop-cons, refl, sym}
use Rattle.std.proofs.Common.{◌∙◌, ap, arith}
use Rattle.io_streams.specs.declared.options.Options.{Options}
use Rattle.command_loop.specs.Output.{ask_of}
use Rattle.command_loop.specs.Private.Progress.{RunState, ServesRequest, FailsToReply}
use Rattle.command_loop.specs.Private.Progress.{ServedInOrder, StopsAmong}
use Rattle.command_loop.proofs.RequestLemmas.{map_append, handled-one, handled-then, handled-as}
use Rattle.command_loop.proofs.RequestLemmas.{halts}

-- a prefix that grows by one element
pub take-next : {X : Type 0} (xs : List X) (i : ℕ) (d : X) → i < length xs
    → take i xs ++ get_or xs i d ∷ [] ≡ take (i + 1) xs
take-next xs i d lt = ap (λ z. take i xs ++ z) (sym (ap (take 1) (drop-cons xs i d lt)))
    ∙ sym (take-add i 1 xs)

pub take-past : {X : Type 0} (n : ℕ) (xs : List X) → length xs ≤ n → take n xs ≡ xs
take-past zero [] h = refl
take-past (suc n) [] h = refl
take-past zero (x ∷ xs) h = absurd (omega arith)
take-past (suc n) (x ∷ xs) h = ap (λ z. x ∷ z) (take-past n xs (omega arith))

-- ---- addresses of the command line

pub word-next : (options : Options) (start now new : RunState) (words : List ℕ) (i : ℕ)
    → i < length words
    → ServedInOrder options start (map ask_of (take i words)) now
    → ServesRequest options (ask_of (get_or words i 0)) now new
    → ServedInOrder options start (map ask_of (take (i + 1) words)) new
word-next options start now new words i lt h s =
    handled-as options start new _ _
    (sym (map_append ask_of (take i words) (get_or words i 0 ∷ []))
    ∙ ap (map ask_of) (take-next words i 0 lt))
    (handled-then options start now new (map ask_of (take i words)) (ask_of (get_or words i 0) ∷ [])
    h
    (handled-one options (ask_of (get_or words i 0)) now new s))

pub word-stops : (options : Options) (start now new : RunState) (words : List ℕ) (i : ℕ)
    → i < length words
    → ServedInOrder options start (map ask_of (take i words)) now
    → FailsToReply options (ask_of (get_or words i 0)) now new
    → StopsAmong options start (map ask_of words) new.asked new.written
word-stops options start now new words i lt h f = (
  map ask_of (take i words),
  map ask_of (drop (suc i) words),
  ask_of (get_or words i 0),
  ap (map ask_of) (sym (take-append-drop i words) ∙ ap (λ (z : List ℕ). take i words ++ z)
      (drop-cons words i 0 lt)) ∙ map_append ask_of
      (take i words) (get_or words i 0 ∷ drop (suc i) words),
  halts options start now new (map ask_of (take i words)) (ask_of (get_or words i 0)) h f,
)

pub words-all : (options : Options) (start now : RunState) (words : List ℕ) (i : ℕ)
    → length words ≤ i
    → ServedInOrder options start (map ask_of (take i words)) now
    → ServedInOrder options start (map ask_of words) now
words-all options start now words i past h =
    handled-as options start now _ _ (ap (map ask_of) (take-past i words past)) h
