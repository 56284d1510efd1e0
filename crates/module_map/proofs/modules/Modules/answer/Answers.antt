use Rattle.std.proofs.Common.{◌≡◌, ◌∙◌, ◌≤◌, sym, ap, subst, arith, length}
use Rattle.addr_table.specs.Module.{frames_in}
use Rattle.module_map.specs.Answers.{asked as asked_of, frames_at}
use Rattle.module_map.proofs.Answering.{none_found, no_place, past_end, at_place}
use Rattle.module_map.proofs.modules.Modules.answer.Goals as goal

pub returns-in_default-clause-frames : goal.returns-in_default-clause-frames
returns-in_default-clause-frames c = λ e.
    let is = subst (λ v. c.args.asked ≡ asked_of v.world c.args.asked.address) (sym c.self.view_is)
    e in
    ap (λ a. a.frames) c.none.ensures
    ∙ none_found c.self.inside.sorted c.self.inside.loads c.args.asked.address c.args.asked is
    c.in_default.is
    ∙ ap (λ v. frames_at v.world c.args.asked.address) c.self.view_is

pub returns-in_default-place-clause-frames : goal.returns-in_default-place-clause-frames
returns-in_default-place-clause-frames c = λ e.
    let is = subst (λ v. c.args.asked ≡ asked_of v.world c.args.asked.address) (sym c.self.view_is)
    e in
    ap (λ a. a.frames) c.none-in_default-place.ensures
    ∙ no_place c.self.inside.sorted c.self.inside.loads c.args.asked.address c.args.asked is
    c.in-Some.found c.in-Some.is c.in_default-place.is
    ∙ ap (λ v. frames_at v.world c.args.asked.address) c.self.view_is

pub returns-then-found-len-clause-frames : goal.returns-then-found-len-clause-frames
returns-then-found-len-clause-frames c = λ e.
    let is = subst (λ v. c.args.asked ≡ asked_of v.world c.args.asked.address) (sym c.self.view_is)
    e in
    let past : length c.self.inside.sorted ≤ c.in-Some.found.at = let l = c.len-len.ensures in
    let t = c.if-found-len.true in
    omega arith in
    ap (λ a. a.frames) c.none-then-found-len.ensures
    ∙ past_end c.self.inside.sorted c.self.inside.loads c.args.asked.address c.args.asked is
    c.in-Some.found c.in-Some.is past
    ∙ ap (λ v. frames_at v.world c.args.asked.address) c.self.view_is

pub returns-clause-frames : goal.returns-clause-frames
returns-clause-frames c = λ e.
    let is = subst (λ v. c.args.asked ≡ asked_of v.world c.args.asked.address) (sym c.self.view_is)
    e in
    ap (λ a. a.frames) c.new.ensures ∙ ap (λ b. frames_in b c.in-Some-place.place) c.object.ensures
    ∙ at_place c.self.inside.sorted c.self.inside.loads c.args.asked.address c.args.asked is
    c.in-Some.found c.in-Some.is c.in-Some-place.place c.loaded_at.result.now c.in-Some-place.is
    c.loaded_at.ensures
    ∙ ap (λ v. frames_at v.world c.args.asked.address) c.self.view_is
