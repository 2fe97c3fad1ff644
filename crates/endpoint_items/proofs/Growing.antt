-- The items of a connection only grow.
use Rattle.std.specs.Prelude.{if◌then◌else◌, Bool, true, false}
use Rattle.std.proofs.Common.{ℕ, List, [], ◌∷◌, ◌++◌, refl, sym, ◌∙◌, ap, subst, append_assoc, append-nil, Option, Some, None}
use Rattle.wire_base.specs.declared.frame.Version.{Version}
use Rattle.wire_base.specs.declared.state.Cause.{Cause}
use Rattle.wire_base.specs.declared.state.Cause.TheVariants as cause
use Rattle.mux_items.specs.declared.channel.ChannelKey.{ChannelKey}
use Rattle.mux_items.specs.Applying.{place_at}
use Rattle.mux_items.specs.Bodies.{same_key}
use Rattle.mux_items.specs.Lists.{is_completed}
use Rattle.rpc_items.specs.Items as rpc
use Rattle.rpc_items.specs.Outcomes.{outcome}
use Rattle.rpc_items.specs.Stable.{IsStable, IsReal}
use Rattle.rpc_items.proofs.Stable.{stable, real}
use Rattle.endpoint_items.specs.Items.{EndItem, Mux, Attach, DidCall, GotMessage, RefusedMessage}
use Rattle.endpoint_items.specs.Connections.{Connection, is_attached, items_of, with_item, end_for, attached_to, end_by}
use Rattle.endpoint_items.specs.Layers.{mux_of, rpc_of}
use Rattle.endpoint_items.specs.Outcomes.{HasGrown, outcome_on}

grown_same : (x : Connection) → HasGrown x x
grown_same (Some items) = ([], refl)
grown_same None = tt

grown_more : (x y z : Connection) → HasGrown x y → HasGrown y z → HasGrown x z
grown_more (Some items) y z g h =
    let on : HasGrown (Some (g.0 ++ items)) z = subst (λ y. HasGrown y z) g.1 h in
    (on.0 ++ g.0, on.1 ∙ ap Some (sym (append_assoc on.0 g.0 items)))
grown_more None y z g h = tt

grown_item : (item : rpc.RpcItem) (x : Connection) → HasGrown x (with_item item x)
grown_item item (Some items) = (item ∷ [], refl)
grown_item item None = tt

grown_if : (b : Bool) (x y : Connection) → HasGrown x y → HasGrown x (if b then y else x)
grown_if true x y g = g
grown_if false x y g = grown_same x

grown_end : (why : Option Cause) (x : Connection) → HasGrown x (end_for why x)
grown_end (Some why) x = grown_if (is_attached x) x (with_item (rpc.End why) x) (grown_item (rpc.End why) x)
grown_end None x = grown_same x

grown_attached : (completed : Bool) (x : Connection) → HasGrown x (attached_to completed x)
grown_attached completed (Some items) = ([], refl)
grown_attached completed None = tt

pub one_grew : (v : Version) (c : ChannelKey) (item : EndItem) (items : List EndItem) → HasGrown (rpc_of v c items) (rpc_of v c (item ∷ items))
one_grew v c (Mux item) items = grown_end (end_by v c item (item ∷ mux_of v items)) (rpc_of v c items)
one_grew v c (Attach key terms) items =
    let completed = is_completed v c (mux_of v items) in
    grown_if (same_key key c) (rpc_of v c items) (attached_to completed (rpc_of v c items)) (grown_attached completed (rpc_of v c items))
one_grew v c (DidCall key call) items = grown_if (same_key key c) (rpc_of v c items) (with_item (rpc.Did call) (rpc_of v c items)) (grown_item (rpc.Did call) (rpc_of v c items))
one_grew v c (GotMessage key place size message) items = grown_if (same_key key c) (rpc_of v c items) (with_item (rpc.Got place message) (rpc_of v c items)) (grown_item (rpc.Got place message) (rpc_of v c items))
one_grew v c (RefusedMessage key place reason) items =
    let why = Some (cause.Refused (place_at place) reason) in
    grown_if (same_key key c) (rpc_of v c items) (end_for why (rpc_of v c items)) (grown_end why (rpc_of v c items))

pub newer_grew : (v : Version) (c : ChannelKey) (newer items : List EndItem) → HasGrown (rpc_of v c items) (rpc_of v c (newer ++ items))
newer_grew v c [] items = grown_same (rpc_of v c items)
newer_grew v c (item ∷ newer) items = grown_more (rpc_of v c items) (rpc_of v c (newer ++ items)) (rpc_of v c (item ∷ newer ++ items)) (newer_grew v c newer items) (one_grew v c item (newer ++ items))

grown_stable : (n : ℕ) (x y : Connection) → HasGrown x y → IsStable n (items_of y) (outcome false n (items_of x))
grown_stable n (Some items) y g = subst (λ y. IsStable n (items_of y) (outcome false n items)) (sym g.1) (stable n g.0 items)
grown_stable n None y g = subst (λ now. IsStable n now (outcome false n [])) (append-nil (items_of y)) (stable n (items_of y) [])

pub outcome_stays : (v : Version) (c : ChannelKey) (n : ℕ) (newer items : List EndItem) → IsStable n (items_of (rpc_of v c (newer ++ items))) (outcome_on false v c n items)
outcome_stays v c n newer items = grown_stable n (rpc_of v c items) (rpc_of v c (newer ++ items)) (newer_grew v c newer items)

pub outcome_real : (stopped : Bool) (v : Version) (c : ChannelKey) (n : ℕ) (items : List EndItem) → IsReal stopped n (items_of (rpc_of v c items)) (outcome_on stopped v c n items)
outcome_real stopped v c n items = real stopped n (items_of (rpc_of v c items))
