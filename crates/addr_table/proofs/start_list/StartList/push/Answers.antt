use Rattle.addr_table.proofs.Endpoints.StartListLaws.{low-more}
use Rattle.addr_table.proofs.start_list.StartList.push.Goals as goal

pub returns-in_ok-push-in-Some : goal.returns-in_ok-push-in-Some
returns-in_ok-push-in-Some c =
    rw (← c.self.view_is, c.in_ok-push-in-Some.ensures.items)
    (low-more c.self.inside.low.items c.self.inside.high.items c.in-Some.low c.args.start
    c.in-Some.ensures.0)
