-- Each item of a run was allowed where it stands.
use Rattle.std.specs.Prelude.{if◌then◌else◌, not, Bool, true, false}
use Rattle.std.proofs.Common.{◌≡◌, ℕ, ◌+◌, ◌-◌, List, [], ◌∷◌, length, refl, ap, subst, Option, Some, None}
use Rattle.std.specs.Str.{bytes_eq}
use Rattle.wire_base.specs.declared.frame.Version.{Version}
use Rattle.wire_base.specs.declared.reason.Reason.{Reason}
use Rattle.wire_base.specs.declared.reason.Reason.TheVariants as reason
use Rattle.wire_base.specs.declared.state.Cause.{Cause}
use Rattle.wire_base.specs.declared.state.Cause.TheVariants as cause
use Rattle.mux_items.specs.declared.channel.ChannelKey.{ChannelKey}
use Rattle.mux_items.specs.Bodies.{FrameBody, flip}
use Rattle.mux_items.specs.Items.{Item, Hello, Got, Rejected, End, is_running}
use Rattle.mux_items.specs.Due.{got}
use Rattle.mux_items.specs.Refusals.{frame_refusal}
use Rattle.mux_items.specs.Applying.{Allowed, lacks_room, place_at}
use Rattle.mux_items.specs.Parties.{party_by}
use Rattle.mux_items.proofs.Applied.{allowed_apply}
use Rattle.mux_run.specs.Run.{RunSide, Terms, SideTerms, terms_at_a, terms_at_b, greeting_size, greet, place_after, is_spent, added}
use Rattle.mux_run.specs.declared.steps.Side.{Side}
use Rattle.mux_run.specs.declared.steps.Side.TheVariants.{A, B}
use Rattle.mux_run.proofs.Growing.{greeted_grown}
use Rattle.endpoint_items.specs.Items.{EndItem, Mux}
use Rattle.endpoint_items.specs.Layers.{mux_of}
use Rattle.endpoint_items.specs.Calls.{is_in_use}
use Rattle.endpoint_items.specs.Arriving.{next_message}
use Rattle.endpoint_items.specs.Allowed.{used_in, AreAllowed}
use Rattle.endpoint_items.proofs.Attached.{mux_allowed}
use Rattle.endpoint_items.proofs.Rules.{calls_keep, messages_keep}
use Rattle.endpoint_run.specs.Next.{item_by_refusal, frame_item, next_of_peer, next_item}
use Rattle.endpoint_run.specs.Run.{EndSide, EndWorld, EndStep, Calls, Delivers, Ends, mux_side, with_item, begun, side_in, turns_of, side_of, happens_at, happens, in_step_at, start, run_from, end_run}
use Rattle.endpoint_run.specs.Moments.{After, Within}
use Rattle.endpoint_run.specs.Safe.{KeepsRules, KeepsRulesRun}
use Rattle.endpoint_run.proofs.Delivering.{greeted_now}
use Rattle.endpoint_run.proofs.Heard.{frame_item_is}
use Rattle.endpoint_run.proofs.Turns.{IfItem, if_found, peer_if, next_if, settled_if}

-- items of the multiplexing end that use no channel

unused_keeps : (v : Version) (item : Item) (items : List EndItem) → used_in item ≡ None → Allowed v (item ∷ mux_of v items) → AreAllowed v items → AreAllowed v (Mux item ∷ items)
unused_keeps v item items e allowed a = ((allowed, ap (λ used. is_in_use v used items) e), a)

end_keeps : (v : Version) (why : Cause) (items : List EndItem) → is_running (mux_of v items) ≡ true → AreAllowed v items → AreAllowed v (Mux (End why) ∷ items)
end_keeps v why items runs a = unused_keeps v (End why) items refl (runs, mux_allowed v items a) a

unused_frame : (v : Version) (place : ℕ) (c : ChannelKey) (body : FrameBody) (m : List Item) (r : Option Reason) → used_in (item_by_refusal v place c body m r) ≡ None
unused_frame v place c body m None = elim (lacks_room v body m) as (λ b. used_in (if b then Rejected place c body else Got place c body) ≡ None) [ true ↦ refl | false ↦ refl ]
unused_frame v place c body m (Some reason) = refl

unused_greet : (w : SideTerms) → used_in (greet w) ≡ None
unused_greet w = elim (bytes_eq w.own w.peer) as (λ b. used_in (if b then End (cause.Refused (place_at (greeting_size w - length w.peer)) reason.SameNonce) else Hello (party_by w.own w.peer)) ≡ None) [ true ↦ refl | false ↦ refl ]

-- what is next

abbrev pub Keeps : SideTerms → List EndItem → EndItem → Type 0
Keeps w items item = AreAllowed w.version (item ∷ items)

peer_keeps : (w : SideTerms) (given : ℕ) (y : RunSide) (items : List EndItem) → is_running (mux_of w.version items) ≡ true → AreAllowed w.version items → IfItem (Keeps w items) (next_of_peer w given (mux_of w.version items) y)
peer_keeps w given y items runs a =
    let m = mux_of w.version items in
    let place = place_after w (length (got m)) y in
    peer_if (Keeps w items) w given m y
    (λ ready f fs e.
    unused_keeps w.version (frame_item w.version place f m) items (unused_frame w.version place (flip f).key f.body m (frame_refusal w.version (flip f).key f.body m))
    (subst (Allowed w.version) (frame_item_is w.version place f m) (allowed_apply w.version place (flip f).key f.body m (mux_allowed w.version items a) ready runs)) a)
    (λ unready fits.
    unused_keeps w.version (greet w) items (unused_greet w)
    (subst (Allowed w.version) (greeted_now w given m runs unready fits) ((greeted_grown w given m).allowed (mux_allowed w.version items a))) a)

pub next_keeps : (w : SideTerms) (given : ℕ) (y : RunSide) (items : List EndItem) → AreAllowed w.version items → IfItem (Keeps w items) (next_item w given y items)
next_keeps w given y items a = next_if (Keeps w items) w given y items
    (λ runs. if_found (Keeps w items) (next_message w.version items) (λ item e. messages_keep w.version item items a e))
    (λ runs. peer_keeps w given y items runs a)

-- a step of x

pub begun_keeps : (w : SideTerms) (s : EndStep) (x y : EndSide) → AreAllowed w.version x.items → AreAllowed w.version (begun w s x y).items
begun_keeps w (Calls side c) x y a = calls_keep w.version c x.items a
begun_keeps w (Delivers side n) x y a = by (is_running (mux_of w.version x.items)) refl (is_spent w n (mux_side w.version x) (mux_side w.version y))
  where
    by : (r : Bool) → is_running (mux_of w.version x.items) ≡ r → (spent : Bool) → AreAllowed w.version (if not r then x
        else if spent then with_item (Mux (End cause.Spent)) x
        else record { items = x.items; delivered = x.delivered + added w n (mux_side w.version x) (mux_side w.version y) }).items
    by true runs true = end_keeps w.version cause.Spent x.items runs a
    by true runs false = a
    by false stops spent = a
begun_keeps w (Ends side) x y a = by (is_running (mux_of w.version x.items)) refl
  where
    by : (r : Bool) → is_running (mux_of w.version x.items) ≡ r → AreAllowed w.version (if r then with_item (Mux (End cause.InputEnded)) x else x).items
    by true runs = end_keeps w.version cause.InputEnded x.items runs a
    by false stops = a

side_keeps : (w : SideTerms) (turns : ℕ) (s : EndStep) (x y : EndSide) → AreAllowed w.version x.items → AreAllowed w.version (side_in w turns s x y).items
side_keeps w turns s x y a =
    let b = begun w s x y in
    settled_if (AreAllowed w.version) w b.delivered (mux_side w.version y) (λ items a. next_keeps w b.delivered (mux_side w.version y) items a) turns b.items (begun_keeps w s x y a)

-- both sides

step_keeps : (terms : Terms) (turns : ℕ) (side : Side) (s : EndStep) (w : EndWorld) → KeepsRules terms w → KeepsRules terms (in_step_at terms turns side s w)
step_keeps terms turns A s w h = record { a = side_keeps (terms_at_a terms) turns s w.a w.b h.a; b = h.b }
step_keeps terms turns B s w h = record { a = h.a; b = side_keeps (terms_at_b terms) turns s w.b w.a h.b }

happens_keeps : (terms : Terms) (side : Side) (s : EndStep) (w : EndWorld) → KeepsRules terms w → KeepsRules terms (happens_at terms side s w)
happens_keeps terms A s w h = step_keeps terms (turns_of (terms_at_a terms) s w.a w.b) A s w h
happens_keeps terms B s w h = step_keeps terms (turns_of (terms_at_b terms) s w.b w.a) B s w h

run_from_keeps : (terms : Terms) (w : EndWorld) (steps : List EndStep) → KeepsRules terms w → KeepsRules terms (run_from terms w steps)
run_from_keeps terms w [] h = h
run_from_keeps terms w (s ∷ steps) h = run_from_keeps terms (happens terms s w) steps (happens_keeps terms (side_of s) s w h)

pub run_keeps : (terms : Terms) (steps : List EndStep) → KeepsRulesRun terms steps
run_keeps terms steps After = run_from_keeps terms start steps (record { a = tt; b = tt })
run_keeps terms steps (Within s turns) = step_keeps terms turns (side_of s) s (end_run terms steps) (run_from_keeps terms start steps (record { a = tt; b = tt }))
