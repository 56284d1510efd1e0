-- The command line, as the parser's description of it.
use Rattle.std.specs.Prelude.{ℕ, Bool, List, Some, codes, pos}
use Rattle.clap.specs.Walk.{Rule}
use Rattle.clap.specs.Simple.{App, new_app, new_rule, with_rule}
use Rattle.clap.specs.declared.builder.value_parser.ValueParser.TheVariants.{Signed}
use Rattle.clap.specs.declared.builder.action.ArgAction.TheVariants.{SetTrue, Set, Append}

-- a flag with one letter and a long name, which is its id
abbrev pub flag_rule : ℕ → List ℕ → Rule
flag_rule letter name =
    record (new_rule name) { short = Some letter; long = Some name; action = Some SetTrue }

abbrev pub linkage_rule : Rule
linkage_rule =
    record (new_rule (codes "linkage")) { long = Some (codes "linkage"); action = Some SetTrue }

abbrev pub exe_rule : Rule
exe_rule = record (new_rule (codes "exe")) {
  short = Some 101;
  long = Some (codes "exe");
  value_names = 1;
  action = Some Set;
}

-- the capacity of the cache is from 0 to 65,536 entries
abbrev pub cache_rule : Rule
cache_rule = record (new_rule (codes "cache")) {
  long = Some (codes "cache");
  value_names = 1;
  action = Some Set;
  parser = Some (Signed (pos 0) (pos 65536));
}

-- the positional arguments
abbrev pub words_rule : Rule
words_rule = record (new_rule (codes "words")) { value_names = 1; action = Some Append }

-- the letters are a, f, i, p and s
abbrev pub flags : App
flags =
    with_rule (with_rule (with_rule (with_rule (with_rule (with_rule
    (new_app (codes "addr2line_live"))
    (flag_rule 97 (codes "addresses"))) (flag_rule 102 (codes "functions")))
    (flag_rule 105 (codes "inlines"))) (flag_rule 112 (codes "pretty-print")))
    (flag_rule 115 (codes "basenames"))) linkage_rule

-- the command with all of its arguments
abbrev pub all_rules : App
all_rules = with_rule (with_rule (with_rule flags exe_rule) cache_rule) words_rule

-- the command with a version, so that the parser adds --version
abbrev pub with_version : App → App
with_version a = record a { top = record a.top { has_version = Bool.true } }

unfoldable pub our_app : App
our_app = with_version all_rules
