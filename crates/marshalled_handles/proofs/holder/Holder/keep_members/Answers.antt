-- The next of the members.
use Rattle.std.proofs.Common.{◌∙◌, arith}
use Rattle.std.specs.Option.{option_copied}
use Rattle.marshalled_handles.proofs.Adopting.{kept_member, member_on}
use Rattle.marshalled_handles.proofs.holder.Holder.keep_members.Goals as goal

pub loop-place-preserved : goal.loop-place-preserved
loop-place-preserved c = record {
  rest =
      member_on (option_copied c.args.request) c.as_slice-members.result.now c.loop-place.place c.index-members-place.result c.loop-place.self c.keep_member.new.self (omega arith) c.index-members-place.is c.in_ok-keep_member.ensures.ok
      ∙ c.loop-place.invariant.rest;
  kept = kept_member (option_copied c.args.request) c.index-members-place.result _ c.args.self.now c.loop-place.self c.keep_member.new.self c.in_ok-keep_member.ensures.ok c.loop-place.invariant.kept;
}
