use Rattle.std.proofs.Common.{refl, []}
use Rattle.io_streams.proofs.StreamLemmas.{grows_nothing}
use Rattle.command_loop.proofs.OutcomeLemmas.{asked-current, asked-reply}
use Rattle.command_loop.proofs.request.act.Goals as goal

pub returns-in-Ask : goal.returns-in-Ask
returns-in-Ask g c = rw (c.in-Ok.is, c.in-Ask.is) (record {
  outcomes = [];
  answered = record { each = refl; asked = grows_nothing _ };
  steps = c.ask.ensures.world;
  replies = asked-reply _ _ _ _ c.ask.ensures.world c.ask.ensures.found;
  current = asked-current _ _ _ _ c.ask.ensures.world c.ask.ensures.found;
})
