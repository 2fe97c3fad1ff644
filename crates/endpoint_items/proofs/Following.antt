-- What follows an item keeps the rules of the multiplexing end, and leaves other channels as open as they were.
use Rattle.std.specs.Prelude.{if◌then◌else◌, not, Bool, true, false}
use Rattle.std.proofs.Common.{◌≡◌, List, [], ◌∷◌, refl, ap, Option, Some, None}
use Rattle.std.proofs.lemmas.Bool.{not-true}
use Rattle.wire_base.specs.declared.frame.Version.{Version}
use Rattle.wire_base.specs.declared.refusal.Refusal.{Refusal}
use Rattle.mux_items.specs.declared.call.Call.{Call}
use Rattle.mux_items.specs.declared.call.Call.TheVariants as call
use Rattle.mux_items.specs.declared.channel.ChannelKey.{ChannelKey}
use Rattle.mux_items.specs.Applying.{Allowed}
use Rattle.mux_items.specs.Bodies.{Content, ContentWritingCompleted, same_key}
use Rattle.mux_items.specs.Calls.{call_refusal, item_of_call, unless_refused, called}
use Rattle.mux_items.specs.Items.{Item, Got}
use Rattle.mux_items.specs.Lists.{has_completed, is_completed}
use Rattle.rpc_items.specs.declared.messages.Message.{Message}
use Rattle.rpc_end.specs.declared.terms.Terms.{Terms}
use Rattle.rpc_end.specs.Texts.{message_texts}
use Rattle.endpoint_items.specs.Connections.{end_by}
use Rattle.endpoint_items.specs.Following.{followed, read_all, complete_once, write_said, follow_ups, attach_calls}
use Rattle.endpoint_items.proofs.Opens.{IsGoing, going_more}

pub called_is : (v : Version) (d : Call) (m : List Item) → call_refusal v d m ≡ None → called v d m ≡ item_of_call d m ∷ m
called_is v d m e = ap (λ r. unless_refused r (item_of_call d m) m) e

pub call_allowed : (v : Version) (d : Call) (m : List Item) → call_refusal v d m ≡ None → Allowed v m → Allowed v (item_of_call d m ∷ m)
call_allowed v (call.Offer name size) m e a = (e, refl, a)
call_allowed v (call.Accept c size) m e a = (e, a)
call_allowed v (call.Write c bytes) m e a = (e, a)
call_allowed v (call.Read c max) m e a = (e, a)
call_allowed v (call.Complete c) m e a = (e, a)
call_allowed v (call.Terminate c) m e a = (e, a)

-- a call that leaves the connection of c going
abbrev pub is_harmless : ChannelKey → Call → Bool
is_harmless c (call.Terminate key) = not (same_key key c)
is_harmless c d = true

abbrev pub AreHarmless : ChannelKey → List Call → Type 0
AreHarmless c [] = Unit {0}
AreHarmless c (d ∷ calls) = (is_harmless c d ≡ true) × AreHarmless c calls

harmless_end : (v : Version) (c : ChannelKey) (d : Call) (m now : List Item) → is_harmless c d ≡ true → end_by v c (item_of_call d m) now ≡ None
harmless_end v c (call.Terminate key) m now h = rw (not-true (same_key key c) h) refl
harmless_end v c d m now h = refl

-- rules are kept, and what goes on does so
record Keeps (v : Version) (c : ChannelKey) (before now : List Item) : Type 0 where
  allowed : Allowed v before → Allowed v now
  going : Allowed v before → IsGoing v c before → IsGoing v c now

call_keeps : (v : Version) (c : ChannelKey) (d : Call) (m : List Item) → is_harmless c d ≡ true → Keeps v c m (called v d m)
call_keeps v c d m h = by (call_refusal v d m) refl
  where
    by : (r : Option Refusal) → call_refusal v d m ≡ r → Keeps v c m (unless_refused r (item_of_call d m) m)
    by (Some refusal) e = record { allowed = λ a. a; going = λ a o. o }
    by None e = record { allowed = call_allowed v d m e; going = λ a o. going_more v c (item_of_call d m) m o (call_allowed v d m e a) (harmless_end v c d m (item_of_call d m ∷ m) h) }

pub followed_allowed : (v : Version) (calls : List Call) (m : List Item) → Allowed v m → Allowed v (followed v calls m)
followed_allowed v [] m a = a
followed_allowed v (d ∷ calls) m a = followed_allowed v calls (called v d m) (by (call_refusal v d m) refl)
  where
    by : (r : Option Refusal) → call_refusal v d m ≡ r → Allowed v (unless_refused r (item_of_call d m) m)
    by (Some refusal) e = a
    by None e = call_allowed v d m e a

pub followed_going : (v : Version) (c : ChannelKey) (calls : List Call) (m : List Item) → AreHarmless c calls → Allowed v m → IsGoing v c m → IsGoing v c (followed v calls m)
followed_going v c [] m h a o = o
followed_going v c (d ∷ calls) m h a o =
    let k = call_keeps v c d m h.0 in
    followed_going v c calls (called v d m) h.1 (k.allowed a) (k.going a o)

-- calls that follow

complete_harmless : (c key : ChannelKey) (m : List Item) → AreHarmless c (complete_once key m)
complete_harmless c key m = elim (has_completed key m) as (λ b. AreHarmless c (if b then [] else call.Complete key ∷ [])) [ true ↦ tt | false ↦ (refl, tt) ]

pub write_harmless : (c key : ChannelKey) (terms : Terms) (messages : List Message) (m : List Item) → AreHarmless c (write_said key terms messages m)
write_harmless c key terms [] m = tt
write_harmless c key terms (message ∷ messages) m = elim (has_completed key m) as (λ b. AreHarmless c (if b then [] else call.Write key (message_texts terms (message ∷ messages)) ∷ [])) [ true ↦ tt | false ↦ (refl, tt) ]

pub attach_harmless : (v : Version) (c key : ChannelKey) (m : List Item) → AreHarmless c (attach_calls v key m)
attach_harmless v c key m = (refl, elim (is_completed v key m) as (λ b. AreHarmless c (if b then complete_once key m else [])) [ true ↦ complete_harmless c key m | false ↦ tt ])

pub follow_harmless : (v : Version) (attached : ChannelKey → Bool) (c : ChannelKey) (item : Item) (m : List Item) → AreHarmless c (follow_ups v attached item m)
follow_harmless v attached c (Got place key (Content bytes)) m = elim (attached key) as (λ b. AreHarmless c (if b then read_all v key m ∷ [] else [])) [ true ↦ (refl, tt) | false ↦ tt ]
follow_harmless v attached c (Got place key ContentWritingCompleted) m = elim (attached key) as (λ b. AreHarmless c (if b then complete_once key m else [])) [ true ↦ complete_harmless c key m | false ↦ tt ]
follow_harmless v attached c item m = tt
