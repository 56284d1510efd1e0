use Rattle.std.proofs.Common.{◌∙◌, ap, sym}
use Rattle.std.proofs.lemmas.Result.{err_from_is_err_and}
use Rattle.clap.specs.Walk.{rows_of}
use Rattle.clap.specs.Matches.{found_of}
use Rattle.command_line.specs.Settings.{numbers_of}
use Rattle.command_line.proofs.SettingsLemmas.{with_numbers, word-refused, texts-are}
use Rattle.command_line.proofs.settings.options.Goals as goal

pub returns-in_err-addresses : goal.returns-in_err-addresses
returns-in_err-addresses c =
    let p = err_from_is_err_and c.from_residual-in_err-addresses.result
    c.from_residual-in_err-addresses.ensures.1 in
    let texts = texts-are c.words.result _ c.words.ensures in
    rw (p.1, p.2) (word-refused _ (rows_of (found_of c.in_ok-matches.matches)) _ _
    c.in_err-addresses.ensures c.in_ok-matches.ensures.0
    (with_numbers _ _ c.in_ok-matches.ensures.1 _ (ap numbers_of (sym texts))))

pub returns : goal.returns
returns c =
    let texts = texts-are c.words.result _ c.words.ensures in
    let is = with_numbers _ _ c.in_ok-matches.ensures.1 _
    (ap numbers_of (sym texts) ∙ c.in_ok-addresses.ensures) in
    record {
      0 = c.in_ok-matches.ensures.0;
      1 = rw (← c.in_ok-matches.ensures.1) c.cache_size.ensures;
      2 = rw (
        c.is_set.ensures,
        c.is_set-2.ensures,
        c.is_set-3.ensures,
        c.is_set-4.ensures,
        c.is_set-5.ensures,
        c.is_set-6.ensures,
        c.in_ok-exe.ensures,
        c.text.ensures,
      ) is;
    }
