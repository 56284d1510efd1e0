-- Buffered output.
use Rattle.std.specs.Prelude.{◌≡◌, ℕ, List, ◌++◌, Option, Result, Ok, Err}
use Rattle.std.specs.Io.KnownBytes.{Appends}
use Rattle.io_streams.specs.Streams.{IsBeginning}

-- A string was appended to the buffer: everything is written except for the bytes in the new
-- buffer.
pub record Put (written written' : Option (List ℕ)) (buffer buffer' : List ℕ)
    (text : List ℕ) : Type 0 where
  pub sent : List ℕ
  pub splits : buffer ++ text ≡ sent ++ buffer'
  pub appended : Appends written written' sent

-- A write failed while a string was appended to the buffer: a prefix of the bytes is written.
pub record Cut (written written' : Option (List ℕ)) (buffer : List ℕ) (text : List ℕ) : Type 0 where
  pub sent : List ℕ
  pub begins : IsBeginning sent (buffer ++ text)
  pub appended : Appends written written' sent

abbrev pub Puts : {E : Type 0} → Option (List ℕ) → Option (List ℕ) → List ℕ → List ℕ
    → Result (Unit {0}) E → List ℕ → Type 0
Puts written written' buffer buffer' (Ok done) text = Put written written' buffer buffer' text
Puts written written' buffer buffer' (Err fault) text = Cut written written' buffer text
