-- The fields after the first one of a line.
use Rattle.std.specs.Prelude.{ℕ, List, [], Option, Some, None}
use Rattle.command_loop.specs.Requests.{fields}

-- the fields after a space, if there is one
abbrev pub cut_parts : Option (List ℕ) → List (List ℕ)
cut_parts None = []
cut_parts (Some rest) = fields rest
