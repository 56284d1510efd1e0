-- Paths, part by part.
use Rattle.std.specs.Prelude.{ℕ, List, [], ◌∷◌, map}
use Rattle.answer_text.specs.Printable.{printable}

-- the last of these parts, or the given part if there are none
abbrev pub last_or : List ℕ → List (List ℕ) → List ℕ
last_or part [] = part
last_or part (next ∷ parts) = last_or next parts

-- a slash and a part
abbrev pub after_slash : List ℕ → List ℕ
after_slash part = 47 ∷ map printable part
