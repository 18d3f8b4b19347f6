use Rattle.std.proofs.Common.{◌+◌, ◌-◌, length, take, drop, ap, ◌∙◌, sym, arith}
use Rattle.std.proofs.lemmas.List.{take_rest, length-drop}
use Rattle.sim_base.specs.declared.message.Access.TheVariants as access
use Rattle.queue.specs.Columns.{tag_word}
use Rattle.queue.specs.Lines.{NoneTaggedAs}
use Rattle.queue.proofs.TagSearch.{none_tagged, none_further}
use Rattle.queue.proofs.request_log.lines.next_for_line.Goals as goal

pub returns-in_default : goal.returns-in_default
returns-in_default c k low high =
    let tags = c.args.tags.now in
    let at = c.loop-at.at in
    let left = take (length tags - at) (drop at tags) in
    let n = c.bank_number-bank.ensures.number in
    none_tagged c.args.eligible c.args.place c.args.log.now tags left c.args.from at (length left) c.tag_word-read.result c.tag_word-write.result (take_rest tags at)
    (c.tag_word-read.ensures ∙ ap (tag_word c.args.eligible access.Read) n) (c.tag_word-write.ensures ∙ ap (tag_word c.args.eligible access.Write) n) c.loop-at.invariant.1
    (c.in_default.ensures {u = tt}) k low
    (omega (arith, high, c.requires, ap length (take_rest tags at), length-drop at tags))

pub returns-then-is_for : goal.returns-then-is_for
returns-then-is_for c =
    let tags = c.args.tags.now in
    let at = c.loop-at.at in
    let left = take (length tags - at) (drop at tags) in
    let m = c.in-Some.ensures {u = tt} in
    let n = c.bank_number-bank.ensures.number in
    record {
      from_there = omega (arith, c.loop-at.invariant.0);
      within = omega (arith, m.0.high, c.requires, ap length (take_rest tags at), length-drop at tags);
      waits = sym c.is_for.ensures ∙ c.if-is_for.true;
      none_before =
          none_tagged c.args.eligible c.args.place c.args.log.now tags left c.args.from at c.in-Some.next c.tag_word-read.result c.tag_word-write.result (take_rest tags at)
          (c.tag_word-read.ensures ∙ ap (tag_word c.args.eligible access.Read) n) (c.tag_word-write.ensures ∙ ap (tag_word c.args.eligible access.Write) n) c.loop-at.invariant.1
          m.0.before;
    }

pub loop-at-preserved : goal.loop-at-preserved
loop-at-preserved c =
    let tags = c.args.tags.now in
    let at = c.loop-at.at in
    let next = c.in-Some.next in
    let left = take (length tags - at) (drop at tags) in
    let m = c.in-Some.ensures {u = tt} in
    let n = c.bank_number-bank.ensures.number in
    let none : NoneTaggedAs c.args.eligible c.args.place c.args.log.now tags c.args.from (at + next) =
    none_tagged c.args.eligible c.args.place c.args.log.now tags left c.args.from at next c.tag_word-read.result c.tag_word-write.result (take_rest tags at)
    (c.tag_word-read.ensures ∙ ap (tag_word c.args.eligible access.Read) n) (c.tag_word-write.ensures ∙ ap (tag_word c.args.eligible access.Write) n) c.loop-at.invariant.1
    m.0.before in
    (omega (arith, c.loop-at.invariant.0), none_further c.args.eligible c.args.place c.args.log.now tags c.args.from (at + next) none (sym c.is_for.ensures ∙ c.if-is_for.false))
