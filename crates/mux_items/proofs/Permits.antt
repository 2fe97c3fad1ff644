-- What is so where a call or a frame isn't refused.
use Rattle.std.specs.Prelude.{ℕ, ◌+◌, List, length, Bool, true, false, not, ◌&&◌, ◌||◌, nat_lt, nat_le, if◌then◌else◌, Option, Some, None, is_none}
use Rattle.std.proofs.Common.{◌≡◌, ◌≤◌, refl, arith}
use Rattle.std.proofs.lemmas.Bool.{true≢false, ltb-false, leb-false, or_parts, not-false}
use Rattle.wire_base.specs.declared.frame.Version.{Version}
use Rattle.wire_base.specs.declared.refusal.Refusal.{Refusal}
use Rattle.wire_base.specs.declared.refusal.Refusal.TheVariants as refusal
use Rattle.wire_base.specs.declared.reason.Reason.TheVariants as reason
use Rattle.wire_base.specs.declared.state.Cause.{Cause}
use Rattle.wire_base.specs.Options.{or_else}
use Rattle.mux_items.specs.declared.channel.ChannelKey.{ChannelKey}
use Rattle.mux_items.specs.Bodies.{FrameBody, OfferAccepted, Content, is_one}
use Rattle.mux_items.specs.Items.{Item, ended, is_running}
use Rattle.mux_items.specs.Lists.{window, is_offered, has_completed, termination_emitted, is_accepted, is_completed, unread}
use Rattle.mux_items.specs.Kept.{is_kept, kept_keys, own_windows, own_offers}
use Rattle.mux_items.specs.Limits.{longest_name, greatest_window, most_windows, most_channels, most_offers}
use Rattle.mux_items.specs.Refusals.{unless_ended, is_ready, is_bad_window, is_unaccepted, offer_refusal, accept_refusal, open_refusal, writing_refusal, write_refusal, read_refusal, complete_refusal, terminate_refusal, heeded_refusal, later_refusal, frame_refusal, is_early, is_above_window}

-- a chain of tests that all fail

pub if_none : {A : Type 0} (test : Bool) (r : A) (otherwise : Option A) → (if test then Some r else otherwise) ≡ None → (test ≡ false) × (otherwise ≡ None)
if_none true r otherwise e = absurd (cc)
if_none false r otherwise e = (refl, e)

pub or_else_none : (first second : Option Refusal) → or_else first second ≡ None → (first ≡ None) × (second ≡ None)
or_else_none (Some r) second e = absurd (cc)
or_else_none None second e = (refl, e)

pub unless_none : (cause : Option Cause) (refused : Option Refusal) → unless_ended cause refused ≡ None → (is_none cause ≡ true) × (refused ≡ None)
unless_none (Some cause) refused e = absurd (cc)
unless_none None refused e = (refl, e)

six_fail : {A : Type 0} (a b c d e f : Bool) (p q r s t u : A) → (if a then Some p else if b then Some q else if c then Some r else if d then Some s else if e then Some t else if f then Some u else None) ≡ None
    → (a ≡ false) × (b ≡ false) × (c ≡ false) × (d ≡ false) × (e ≡ false) × (f ≡ false)
six_fail true b c d e f p q r s t u none = absurd (cc)
six_fail false true c d e f p q r s t u none = absurd (cc)
six_fail false false true d e f p q r s t u none = absurd (cc)
six_fail false false false true e f p q r s t u none = absurd (cc)
six_fail false false false false true f p q r s t u none = absurd (cc)
six_fail false false false false false true p q r s t u none = absurd (cc)
six_fail false false false false false false p q r s t u none = (refl, refl, refl, refl, refl, refl)

-- calls

good_window : (size : ℕ) → is_bad_window size ≡ false → 1 ≤ size
good_window size e = ltb-false size 1 (or_parts (nat_lt size 1) (nat_lt greatest_window size) e).0

pub record PermitsOffer (v : Version) (name : List ℕ) (size : ℕ) (items : List Item) : Type 0 where
  pub running : is_running items ≡ true
  pub ready : is_ready v items ≡ true
  pub not_empty : 1 ≤ size
  pub more : own_offers items + 1 ≤ most_offers

pub offer_permits : (v : Version) (name : List ℕ) (size : ℕ) (items : List Item) → offer_refusal v name size items ≡ None → PermitsOffer v name size items
offer_permits v name size items e =
    let live = unless_none (ended items) _ e in
    let none = six_fail (not (is_ready v items)) (nat_lt longest_name (length name)) (is_bad_window size) (nat_le most_channels (length (kept_keys v items))) (nat_lt most_windows (own_windows v items + size)) (nat_le most_offers (own_offers items))
    refusal.NotReady refusal.NameTooLong refusal.BadWindow refusal.TooManyChannels refusal.WindowsSpent refusal.TooManyOffers live.1 in
    record { running = live.0; ready = not-false (is_ready v items) none.0; not_empty = good_window size none.2; more = omega (arith, leb-false most_offers (own_offers items) none.5) }

pub record PermitsAccept (v : Version) (c : ChannelKey) (size : ℕ) (items : List Item) : Type 0 where
  pub running : is_running items ≡ true
  pub kept : is_kept v c items ≡ true
  pub peer : c.own ≡ false
  pub heard : termination_emitted v c items ≡ false
  pub first : is_accepted v c items ≡ false
  pub not_empty : 1 ≤ size

pub accept_permits : (v : Version) (c : ChannelKey) (size : ℕ) (items : List Item) → accept_refusal v c size items ≡ None → PermitsAccept v c size items
accept_permits v c size items e =
    let live = unless_none (ended items) _ e in
    let none = six_fail (not (is_kept v c items)) c.own (termination_emitted v c items) (is_accepted v c items) (is_bad_window size) (nat_lt most_windows (own_windows v items + size))
    refusal.NoChannel refusal.WrongSide refusal.NotOpen refusal.AlreadyAccepted refusal.BadWindow refusal.WindowsSpent live.1 in
    record { running = live.0; kept = not-false (is_kept v c items) none.0; peer = none.1; heard = none.2; first = none.3; not_empty = good_window size none.4 }

-- a call on a channel that is kept and not terminated
pub record PermitsCall (v : Version) (c : ChannelKey) (items : List Item) : Type 0 where
  pub running : is_running items ≡ true
  pub kept : is_kept v c items ≡ true
  pub heard : termination_emitted v c items ≡ false

pub open_permits : (v : Version) (c : ChannelKey) (items : List Item) → open_refusal v c items ≡ None → (is_kept v c items ≡ true) × (termination_emitted v c items ≡ false)
open_permits v c items e =
    let parts = if_none (not (is_kept v c items)) refusal.NoChannel (if termination_emitted v c items then Some refusal.NotOpen else None) e in
    (not-false (is_kept v c items) parts.0, (if_none (termination_emitted v c items) refusal.NotOpen None parts.1).0)

pub terminate_permits : (v : Version) (c : ChannelKey) (items : List Item) → terminate_refusal v c items ≡ None → PermitsCall v c items
terminate_permits v c items e =
    let live = unless_none (ended items) _ e in
    let parts = open_permits v c items live.1 in
    record { running = live.0; kept = parts.0; heard = parts.1 }

-- and by which writing wasn't completed
pub record PermitsWriting (v : Version) (c : ChannelKey) (items : List Item) : Type 0 where
  pub call : PermitsCall v c items
  pub uncompleted : has_completed c items ≡ false

writing_permits : (v : Version) (c : ChannelKey) (items : List Item) → is_running items ≡ true → writing_refusal v c items ≡ None → PermitsWriting v c items
writing_permits v c items runs e =
    let parts = or_else_none (open_refusal v c items) _ e in
    let on_channel = open_permits v c items parts.0 in
    let accepted = if_none (is_unaccepted v c items) refusal.NotAccepted (if has_completed c items then Some refusal.WritingDone else None) parts.1 in
    record { call = record { running = runs; kept = on_channel.0; heard = on_channel.1 }; uncompleted = (if_none (has_completed c items) refusal.WritingDone None accepted.1).0 }

pub write_permits : (v : Version) (c : ChannelKey) (bytes : List ℕ) (items : List Item) → write_refusal v c bytes items ≡ None → PermitsWriting v c items
write_permits v c bytes items e =
    let live = unless_none (ended items) _ e in
    writing_permits v c items live.0 (or_else_none (writing_refusal v c items) _ live.1).0

pub complete_permits : (v : Version) (c : ChannelKey) (items : List Item) → complete_refusal v c items ≡ None → PermitsWriting v c items
complete_permits v c items e =
    let live = unless_none (ended items) _ e in
    writing_permits v c items live.0 live.1

pub read_permits : (v : Version) (c : ChannelKey) (items : List Item) → read_refusal v c items ≡ None → is_kept v c items ≡ true
read_permits v c items e = not-false (is_kept v c items) (if_none (not (is_kept v c items)) refusal.NoChannel (if is_unaccepted v c items then Some refusal.NotAccepted else None) e).0

-- frames

where_heeded : {A : Type 0} (terminated : Bool) (otherwise : Option A) → (if terminated then None else otherwise) ≡ None → terminated ≡ false → otherwise ≡ None
where_heeded true otherwise e heard = absurd (true≢false heard)
where_heeded false otherwise e heard = e

-- a frame that isn't an offer comes on a channel that was offered
pub later_permits : (v : Version) (c : ChannelKey) (body : FrameBody) (items : List Item) → later_refusal v c body items ≡ None → (is_offered c items ≡ true) × (termination_emitted v c items ≡ false → heeded_refusal v c body items ≡ None)
later_permits v c body items e =
    let parts = if_none (not (is_offered c items)) reason.NoChannel (if termination_emitted v c items then None else heeded_refusal v c body items) e in
    (not-false (is_offered c items) parts.0, λ heard. where_heeded (termination_emitted v c items) (heeded_refusal v c body items) parts.1 heard)

-- an acceptance that is heeded answers an own offer
pub acceptance_permits : (v : Version) (c : ChannelKey) (size : Option ℕ) (items : List Item) → frame_refusal v c (OfferAccepted size) items ≡ None → termination_emitted v c items ≡ false → c.own ≡ true
acceptance_permits v c size items e heard =
    not-false c.own (if_none (not c.own) reason.WrongSide (if is_accepted v c items then Some reason.AlreadyAccepted else None) ((later_permits v c (OfferAccepted size) items e).1 heard)).0

accepted_unless : (own one accepted : Bool) → one ≡ false → ((own || not one) && not accepted) ≡ false → accepted ≡ true
accepted_unless own one true two e = refl
accepted_unless own true false two e = absurd (true≢false two)
accepted_unless true false false two e = absurd (true≢false e)
accepted_unless false false false two e = absurd (true≢false e)

within_window : (one : Bool) (size count : ℕ) → one ≡ false → (not one && nat_lt size count) ≡ false → count ≤ size
within_window true size count two e = absurd (true≢false two)
within_window false size count two e = ltb-false size count e

-- in versions 2 and 3 content is heeded on accepted channels alone, and within the window
pub content_permits : (v : Version) (c : ChannelKey) (bytes : List ℕ) (items : List Item) → is_one v ≡ false → frame_refusal v c (Content bytes) items ≡ None → termination_emitted v c items ≡ false
    → (is_accepted v c items ≡ true) × (length (unread v c items) + length bytes ≤ window c items)
content_permits v c bytes items two e heard =
    let early = if_none (is_early v c items) reason.NotAccepted _ ((later_permits v c (Content bytes) items e).1 heard) in
    let after = if_none (is_completed v c items) reason.ContentAfterCompletion _ early.1 in
    let above = if_none (is_above_window v c bytes items) reason.WindowExceeded None after.1 in
    (accepted_unless c.own (is_one v) (is_accepted v c items) two early.0, within_window (is_one v) (window c items) (length (unread v c items) + length bytes) two above.0)
