use Rattle.std.proofs.Common.{[], ◌∙◌}
use Rattle.rpc_end.specs.declared.terms.Terms.{Terms}
use Rattle.endpoint.proofs.Beginning.{begins_on}
use Rattle.endpoint.proofs.attaching.begin.Goals as goal

pub returns-clause-begins : goal.returns-clause-begins
returns-clause-begins c = λ items at rest s free within.
    let terms : Terms = record { framing = c.args.framing; encoding = c.args.encoding } in
    begins_on c.args.mux.now c.read_all.new.mux items at rest c.args.key terms c.new-end.result c.feed.new.self c.as_slice.result.now c.feed.result c.in_ok-feed.field-0
    (c.in_ok-piece.ensures.moves items at rest s) (c.as_slice.ensures.value ∙ c.in_ok-piece.ensures.bytes items at rest s free) within c.new-end.ensures c.feed.ensures.terms c.in_ok-feed.was (c.feed.ensures.answers [] 0 [] c.new-end.ensures.stands)
