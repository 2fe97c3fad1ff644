use Rattle.std.proofs.Common.{◌≡◌, ◌+◌, true, ◌∷◌, drop, ap, arith, subst}
use Rattle.std.proofs.lemmas.Bool.{and_parts}
use Rattle.std.proofs.lemmas.Result.{err_from_is_err_and}
use Rattle.wire_base.specs.Tree.{trees_of, pairs_of, weight, list_size, pair_size}
use Rattle.wire_base.specs.Appends.{AppendsTo}
use Rattle.wire_base.proofs.Walks.{weight_at, pair_weight_at}
use Rattle.wire_base.proofs.AppendsLemmas.{to_cut}
use Rattle.pack_value.specs.Shortest.{shortest, shortest_items, shortest_pairs, shortest_entry, lengths_fit, item_lengths_fit, entry_fits, pair_lengths_fit}
use Rattle.pack_value.proofs.Lists.{here}
use Rattle.pack_value.proofs.encoder.+put.Goals as goal

pub put_items-put_value-requires : goal.put_items-put_value-requires
put_items-put_value-requires t c =
    let xs = c.as_slice-item-items.result.now in
    let i = c.loop-item.item-index in
    let x = c.item-item.result in
    let fit : item_lengths_fit (trees_of (x ∷ drop (i + 1) xs)) ≡ true = subst (λ ts. item_lengths_fit (trees_of ts) ≡ true) (here xs i x c.loop-item-test.true c.item-item.is) c.loop-item.invariant.fit in
    (omega (arith, weight_at xs i x c.loop-item-test.true, ap weight c.item-item.is, ap list_size c.as_slice-item-items.ensures), (and_parts (lengths_fit x) (item_lengths_fit (trees_of (drop (i + 1) xs))) fit).0)

pub put_items-returns-in_err-put_value-clause-err : goal.put_items-returns-in_err-put_value-clause-err
put_items-returns-in_err-put_value-clause-err t c =
    let xs = c.as_slice-item-items.result.now in
    let i = c.loop-item.item-index in
    let x = c.item-item.result in
    let old = c.args.out.now.items in
    let all = shortest_items (trees_of c.args.items.now) in
    let left : AppendsTo (shortest_items (trees_of (x ∷ drop (i + 1) xs))) old c.loop-item.out.items all =
    subst (λ ts. AppendsTo (shortest_items (trees_of ts)) old c.loop-item.out.items all) (here xs i x c.loop-item-test.true c.item-item.is) c.loop-item.invariant.appended in
    rw (err_from_is_err_and c.from_residual.result c.from_residual.ensures.1).1
    (to_cut old c.loop-item.out.items c.put_value.new.out.items all (shortest x) (shortest_items (trees_of (drop (i + 1) xs))) left c.in_err-put_value.ensures.err)

pub put_pairs-put_pair-requires : goal.put_pairs-put_pair-requires
put_pairs-put_pair-requires t c =
    let xs = c.as_slice-pair-items.result.now in
    let i = c.loop-pair.pair-index in
    let x = c.pair-item.result in
    let fit : pair_lengths_fit (pairs_of (x ∷ drop (i + 1) xs)) ≡ true = subst (λ ps. pair_lengths_fit (pairs_of ps) ≡ true) (here xs i x c.loop-pair-test.true c.pair-item.is) c.loop-pair.invariant.fit in
    let same = ap (λ p. weight p.1) c.pair-item.is in
    (omega (arith, pair_weight_at xs i x c.loop-pair-test.true, same, ap pair_size c.as_slice-pair-items.ensures), (and_parts (entry_fits x) (pair_lengths_fit (pairs_of (drop (i + 1) xs))) fit).0)

pub put_pairs-returns-in_err-put_pair-clause-err : goal.put_pairs-returns-in_err-put_pair-clause-err
put_pairs-returns-in_err-put_pair-clause-err t c =
    let xs = c.as_slice-pair-items.result.now in
    let i = c.loop-pair.pair-index in
    let x = c.pair-item.result in
    let old = c.args.out.now.items in
    let all = shortest_pairs (pairs_of c.args.pairs.now) in
    let left : AppendsTo (shortest_pairs (pairs_of (x ∷ drop (i + 1) xs))) old c.loop-pair.out.items all =
    subst (λ ps. AppendsTo (shortest_pairs (pairs_of ps)) old c.loop-pair.out.items all) (here xs i x c.loop-pair-test.true c.pair-item.is) c.loop-pair.invariant.appended in
    rw (err_from_is_err_and c.from_residual.result c.from_residual.ensures.1).1
    (to_cut old c.loop-pair.out.items c.put_pair.new.out.items all (shortest_entry x) (shortest_pairs (pairs_of (drop (i + 1) xs))) left c.in_err-put_pair.ensures.err)
