-- The scopes of a unit as the walk stores them, and the number of scopes below each.
use Rattle.std.specs.Prelude.{ℕ, ◌+◌, ◌≤◌, min, List, [], ◌∷◌, ◌++◌, Bool, if◌then◌else◌, nat_lt}
use Rattle.std.specs.List.{All, prefix_len}
use Rattle.dwarf_walk.specs.declared.descendants.WalkedScope.{WalkedScope}
use Rattle.dwarf_walk.specs.{declared.unit_entries.ScopePlace.ScopePlace, ScopeEntries.is_scope}
use Rattle.dwarf_units.specs.Entries.{Die}

-- The scope of an entry, if it is one. `least` is the least depth since the scope before it.
abbrev pub walked_scope : ℕ → Die → List WalkedScope
walked_scope least die =
    if is_scope die
    then record { offset = die.offset; depth = die.depth; least = min least die.depth } ∷ []
    else []

-- The least depth after an entry, given the one before it. A scope resets it to the depth of its
-- children.
abbrev pub least_after_entry : ℕ → Die → ℕ
least_after_entry least die = if is_scope die then die.depth + 1 else min least die.depth

-- The scopes in a list of entries, given the least depth before them.
abbrev pub walked_scopes : ℕ → List Die → List WalkedScope
walked_scopes least [] = []
walked_scopes least (die ∷ rest) =
    walked_scope least die ++ walked_scopes (least_after_entry least die) rest

-- The least depth after a list of entries.
abbrev pub least_after : ℕ → List Die → ℕ
least_after least [] = least
least_after least (die ∷ rest) = least_after (least_after_entry least die) rest

-- Whether a scope and the entries since the scope before it are deeper than `depth`.
abbrev pub is_deeper : ℕ → WalkedScope → Bool
is_deeper depth w = nat_lt depth w.least

-- The number of scopes below each scope: those after it, up to the first that is not deeper.
abbrev pub counted_places : List WalkedScope → List ScopePlace
counted_places [] = []
counted_places (w ∷ rest) =
    record { offset = w.offset; inside = prefix_len (is_deeper w.depth) rest }
    ∷ counted_places rest

-- The least depth of a scope is at most its own depth.
abbrev pub IsBounded : WalkedScope → Type 0
IsBounded w = w.least ≤ w.depth

abbrev pub AreBounded : List WalkedScope → Type 0
AreBounded ws = All IsBounded ws
