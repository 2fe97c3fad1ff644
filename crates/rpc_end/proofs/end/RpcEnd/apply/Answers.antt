-- The body begins within the rest, and the reader goes on behind it.
use Rattle.std.proofs.Common.{◌≡◌, ◌+◌, ◌≤◌, ℕ, List, ap, ◌∙◌, arith, rules, length, length-drop}
use Rattle.std.proofs.lemmas.Grind.{common_steps}
use Rattle.message_framing.specs.Unread.{Unread, without_front}
use Rattle.message_framing.proofs.FrontLemmas.{whole_within}
use Rattle.rpc_end.specs.declared.terms.Terms.{Terms}
use Rattle.enumerables.specs.declared.sequence.Sequence.{Sequence}
use Rattle.rpc_end.specs.Sound.{IsSound}
use Rattle.rpc_end.proofs.end.RpcEnd.apply.Goals as goal

skipped : (terms : Terms) (producer : List Sequence) (old new : Unread) (size : ℕ) → IsSound terms producer old → size ≤ length old.rest → new ≡ without_front size old → IsSound terms producer new
skipped terms producer old new size is within e = record {
  framing = ap (λ (r : Unread). r.framing) e ∙ is.framing;
  fed_all =
      let fed : new.fed ≡ old.fed = ap (λ (r : Unread). r.fed) e in
      let at : new.at ≡ old.at + size = ap (λ (r : Unread). r.at) e in
      let left : length new.rest ≡ length (without_front size old).rest = ap (λ (r : Unread). length r.rest) e in
      omega (arith, is.fed_all, within, length-drop size old.rest);
  fed_within =
      let fed : new.fed ≡ old.fed = ap (λ (r : Unread). r.fed) e in
      rw fed is.fed_within;
  pages = is.pages;
}

pub refuse-requires-clause-within : goal.refuse-requires-clause-within
refuse-requires-clause-within c = omega (arith, (whole_within c.args.self.now.terms.framing c.args.self.now.rest c.args.start c.args.size c.requires.whole).1)

pub invariant_of-self : goal.invariant_of-self
invariant_of-self c =
    let within = whole_within c.args.self.now.terms.framing c.args.self.now.rest c.args.start c.args.size c.requires.whole in
    let same : c.self.inside.reader.rest ≡ c.args.self.now.rest = first_of (cc, search rules, grind (arith, common_steps)) in
    skipped c.self.inside.terms c.self.inside.producer c.self.inside.reader c.skip.new.self (c.args.start + c.args.size) c.self.invariant (rw same within.1) c.skip.ensures.value
