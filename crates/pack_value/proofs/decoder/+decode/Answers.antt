use Rattle.std.proofs.lemmas.List.{take_rest}
use Rattle.std.proofs.lemmas.Result.{err_from_is_err_and}
use Rattle.pack_value.specs.Reading.{repeat, pair_at, value_at}
use Rattle.pack_value.proofs.Levels.{value_at-is}
use Rattle.pack_value.proofs.Loop.{goes_on, ends, is_done}
use Rattle.pack_value.proofs.decoder.+decode.Goals as goal

pub item_list_of-returns-in_err-item : goal.item_list_of-returns-in_err-item
item_list_of-returns-in_err-item t c =
    let p = err_from_is_err_and c.from_residual.result c.from_residual.ensures.1 in
    rw (p.1, p.2) (ends (value_at c.args.depth) c.loop.items c.args.count c.loop.counter c.loop.rest.now (repeat (value_at c.args.depth) c.args.count c.args.bytes.now) c.in_err-item.field-0.0 c.loop-test.true c.in_err-item.ensures c.loop.invariant)

pub item_list_of-loop-preserved : goal.item_list_of-loop-preserved
item_list_of-loop-preserved t c =
    rw c.in_ok-push.ensures.ok (goes_on (value_at c.args.depth) c.loop.items c.args.count c.loop.counter c.loop.rest.now (repeat (value_at c.args.depth) c.args.count c.args.bytes.now) c.in_ok-item.item c.in_ok-item.after.now c.loop-test.true c.in_ok-item.ensures c.loop.invariant)

pub item_list_of-returns : goal.item_list_of-returns
item_list_of-returns t c = is_done (value_at c.args.depth) c.loop.items c.args.count c.loop.counter c.loop.rest.now (repeat (value_at c.args.depth) c.args.count c.args.bytes.now) c.loop-test.false c.loop.invariant

pub pair_list_of-returns-in_err-pair : goal.pair_list_of-returns-in_err-pair
pair_list_of-returns-in_err-pair t c =
    let p = err_from_is_err_and c.from_residual.result c.from_residual.ensures.1 in
    let read = pair_at c.args.depth (value_at c.args.depth) in
    rw (p.1, p.2) (ends read c.loop.pairs c.args.count c.loop.counter c.loop.rest.now (repeat read c.args.count c.args.bytes.now) c.in_err-pair.field-0.0 c.loop-test.true c.in_err-pair.ensures c.loop.invariant)

pub pair_list_of-loop-preserved : goal.pair_list_of-loop-preserved
pair_list_of-loop-preserved t c =
    let read = pair_at c.args.depth (value_at c.args.depth) in
    rw c.in_ok-push.ensures.ok (goes_on read c.loop.pairs c.args.count c.loop.counter c.loop.rest.now (repeat read c.args.count c.args.bytes.now) c.in_ok-pair.pair c.in_ok-pair.after.now c.loop-test.true c.in_ok-pair.ensures c.loop.invariant)

pub pair_list_of-returns : goal.pair_list_of-returns
pair_list_of-returns t c =
    let read = pair_at c.args.depth (value_at c.args.depth) in
    is_done read c.loop.pairs c.args.count c.loop.counter c.loop.rest.now (repeat read c.args.count c.args.bytes.now) c.loop-test.false c.loop.invariant

pub value_of-returns-in-Got : goal.value_of-returns-in-Got
value_of-returns-in-Got t c = rw (value_at-is c.args.depth c.args.bytes.now, ← c.in-Got.ensures.exact) (rw (take_rest c.args.bytes.now c.in-Got.n) at c.behind_head.ensures)
