-- What an accepted attachment finds.
use Rattle.std.specs.Prelude.{if◌then◌else◌, not, ◌||◌, Bool, true, false}
use Rattle.std.proofs.Common.{◌≡◌, List, refl, ◌∙◌, Some, None}
use Rattle.std.proofs.lemmas.Bool.{and_parts}
use Rattle.wire_base.specs.declared.frame.Version.{Version}
use Rattle.wire_base.specs.declared.refusal.Refusal.TheVariants as refusal
use Rattle.mux_items.specs.declared.channel.ChannelKey.{ChannelKey}
use Rattle.mux_items.specs.Applying.{Allowed}
use Rattle.mux_items.specs.Items.{ended}
use Rattle.mux_items.specs.Kept.{is_known, has_bytes}
use Rattle.mux_items.specs.Lists.{is_completed, is_closed, unread}
use Rattle.mux_items.specs.Refusals.{is_unaccepted, open_refusal}
use Rattle.mux_items.proofs.Open.{unterminated, completed_heard}
use Rattle.mux_items.proofs.Permits.{if_none, or_else_none, unless_none, open_permits}
use Rattle.endpoint_items.specs.Items.{EndItem}
use Rattle.endpoint_items.specs.Connections.{Connection, is_attached, was_attached, attached_to}
use Rattle.endpoint_items.specs.Layers.{mux_of, rpc_of}
use Rattle.endpoint_items.specs.Calls.{attach_refusal}
use Rattle.endpoint_items.proofs.Usable.{IsThere, IsUsable, running_none}
use Rattle.endpoint_items.proofs.Opens.{IsGoing}

-- what an accepted Attach finds

pub record IsAttachable (v : Version) (c : ChannelKey) (items : List EndItem) : Type 0 where
  pub there : IsThere v c (mux_of v items)
  pub usable : IsUsable v c (mux_of v items)
  pub new : was_attached (rpc_of v c items) ≡ false

pub attachable : (v : Version) (c : ChannelKey) (items : List EndItem) → attach_refusal v c items ≡ None → IsAttachable v c items
attachable v c items e =
    let m = mux_of v items in
    let runs = unless_none (ended m) _ e in
    let opens = or_else_none (open_refusal v c m) _ runs.1 in
    let on = open_permits v c m opens.0 in
    let accepted = if_none (is_unaccepted v c m) refusal.NotAccepted (if was_attached (rpc_of v c items) then Some refusal.Attached else None) opens.1 in
    let three = unterminated v c m on.1 in
    let known = (and_parts (is_known c m) (not (is_closed v c m) || has_bytes (unread v c m)) on.0).0 in
    record {
      there = (runs.0, known, three.here, three.peer, three.unrejected, accepted.0);
      usable = record { runs = running_none (ended m) runs.0; kept = on.0; heard = on.1; accepted = accepted.0 };
      new = (if_none (was_attached (rpc_of v c items)) refusal.Attached None accepted.1).0;
    }

attached_uncompleted : (completed : Bool) (x : Connection) → was_attached x ≡ false → is_attached (attached_to completed x) ≡ true → completed ≡ false
attached_uncompleted completed (Some items) new e = cc
attached_uncompleted true None new e = cc
attached_uncompleted false None new e = refl

pub attach_going : (v : Version) (c : ChannelKey) (items : List EndItem) → Allowed v (mux_of v items) → attach_refusal v c items ≡ None → is_attached (attached_to (is_completed v c (mux_of v items)) (rpc_of v c items)) ≡ true → IsGoing v c (mux_of v items)
attach_going v c items a r e =
    let m = mux_of v items in
    let p = attachable v c items r in
    (p.there, completed_heard v c m a p.usable.heard ∙ attached_uncompleted (is_completed v c m) (rpc_of v c items) p.new e)
