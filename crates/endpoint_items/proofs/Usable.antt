-- Channels on which no call is refused but one to a completed writing.
use Rattle.std.specs.Prelude.{if◌then◌else◌, ◌&&◌, ◌==◌, is_none, Bool, true, false}
use Rattle.std.proofs.Common.{◌≡◌, ℕ, ◌+◌, ◌≤◌, List, [], ◌∷◌, length, refl, Option, Some, None}
use Rattle.std.proofs.lemmas.Bool.{le-ltb}
use Rattle.wire_base.specs.declared.frame.Version.{Version}
use Rattle.wire_base.specs.declared.state.Cause.{Cause}
use Rattle.mux_items.specs.declared.channel.ChannelKey.{ChannelKey}
use Rattle.mux_items.specs.Items.{Item, ended, is_running}
use Rattle.mux_items.specs.Kept.{is_known, is_kept}
use Rattle.mux_items.specs.Limits.{most_bytes}
use Rattle.mux_items.specs.Lists.{written, has_completed, has_terminated, is_terminated_by_peer, is_rejected, is_accepted_in, is_completed_in, before_cut, is_cut, emitted_in, completion_in, completion_emitted, is_finished, termination_emitted}
use Rattle.mux_items.specs.Refusals.{is_unaccepted, open_refusal, writing_refusal, write_refusal, read_refusal, complete_refusal, terminate_refusal}
use Rattle.mux_items.proofs.Taking.{completed_more, completed_in_more}

-- the end runs, and the channel is known, neither terminated nor rejected, and accepted here where the peer offered it
abbrev pub IsThere : Version → ChannelKey → List Item → Type 0
IsThere v c m = (is_running m ≡ true) × (is_known c m ≡ true) × (has_terminated c m ≡ false) × (is_terminated_by_peer c m ≡ false) × (is_rejected c m ≡ false) × (is_unaccepted v c m ≡ false)

-- what reading, writing, completing and terminating need
pub record IsUsable (v : Version) (c : ChannelKey) (m : List Item) : Type 0 where
  pub runs : ended m ≡ None
  pub kept : is_kept v c m ≡ true
  pub heard : termination_emitted v c m ≡ false
  pub accepted : is_unaccepted v c m ≡ false

pub running_none : (ended : Option Cause) → is_none ended ≡ true → ended ≡ None
running_none None e = refl
running_none (Some why) e = cc

pub usable : (v : Version) (c : ChannelKey) (m : List Item) → IsThere v c m → is_finished v c m ≡ false → IsUsable v c m
usable v c m o unfinished =
    let heard : termination_emitted v c m ≡ false = rw (o.2, o.3, o.4) unfinished in
    record { runs = running_none (ended m) o.0; kept = rw (o.1, heard) refl; heard = heard; accepted = o.5 }

-- a channel isn't finished where one of the completions is missing

before : (c : ChannelKey) (f : List Item → Bool) → f [] ≡ false → ((item : Item) (m : List Item) → f (item ∷ m) ≡ false → f m ≡ false) → (m : List Item) → f m ≡ false → f (before_cut c m) ≡ false
before c f none more [] e = e
before c f none more (item ∷ m) e = elim (is_cut c (item ∷ m)) as (λ b. f (if b then before_cut c m else item ∷ m) ≡ false) [
  | true ↦ before c f none more m (more item m e)
  | false ↦ e
]

unless_more : (was is : Bool) → (was ≡ true → is ≡ true) → is ≡ false → was ≡ false
unless_more true is more e = cc (more refl, e)
unless_more false is more e = refl

and_false : (b : Bool) → (b && false) ≡ false
and_false true = refl
and_false false = refl

and_middle : (a d : Bool) → (a && false && d) ≡ false
and_middle true d = refl
and_middle false d = refl

pub unfinished_open : (v : Version) (c : ChannelKey) (m : List Item) → is_completed_in c m ≡ false → is_finished v c m ≡ false
unfinished_open v c m e =
    let none = before c (is_completed_in c) refl (λ item m. unless_more (is_completed_in c m) (is_completed_in c (item ∷ m)) (completed_in_more c item m)) m e in
    rw none (and_false (completion_emitted v c m))

pub unfinished_unwritten : (v : Version) (c : ChannelKey) (m : List Item) → has_completed c m ≡ false → is_finished v c m ≡ false
unfinished_unwritten v c m e =
    let p = before_cut c m in
    let none : has_completed c p ≡ false = before c (has_completed c) refl (λ item m. unless_more (has_completed c m) (has_completed c (item ∷ m)) (completed_more c item m)) m e in
    let no_completion : completion_in v c p ≡ false = rw none (and_middle (is_accepted_in c p) (emitted_in v c p == length (written c p))) in
    rw no_completion refl

-- calls that aren't refused

open_none : (v : Version) (c : ChannelKey) (m : List Item) → IsUsable v c m → open_refusal v c m ≡ None
open_none v c m o = rw (o.kept, o.heard) refl

writing_none : (v : Version) (c : ChannelKey) (m : List Item) → IsUsable v c m → has_completed c m ≡ false → writing_refusal v c m ≡ None
writing_none v c m o e = rw (open_none v c m o, o.accepted, e) refl

pub write_none : (v : Version) (c : ChannelKey) (bytes : List ℕ) (m : List Item) → IsUsable v c m → has_completed c m ≡ false → length (written c m) + length bytes ≤ most_bytes → write_refusal v c bytes m ≡ None
write_none v c bytes m o e h = rw (o.runs, writing_none v c m o e, le-ltb most_bytes (length (written c m) + length bytes) h) refl

pub complete_none : (v : Version) (c : ChannelKey) (m : List Item) → IsUsable v c m → has_completed c m ≡ false → complete_refusal v c m ≡ None
complete_none v c m o e = rw (o.runs, writing_none v c m o e) refl

pub terminate_none : (v : Version) (c : ChannelKey) (m : List Item) → IsUsable v c m → terminate_refusal v c m ≡ None
terminate_none v c m o = rw (o.runs, open_none v c m o) refl

pub read_none : (v : Version) (c : ChannelKey) (m : List Item) → IsUsable v c m → read_refusal v c m ≡ None
read_none v c m o = rw (o.kept, o.accepted) refl
