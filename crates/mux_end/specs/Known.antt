-- A channel in the list of an end.
use Rattle.std.specs.Prelude.{◌≡◌, ℕ, List, [], true, Option, Some, None, Result, Ok, Err}
use Rattle.frame_text.specs.Frames.{fits_id}
use Rattle.wire_base.specs.declared.fault.CallFault.{CallFault}
use Rattle.wire_base.specs.declared.fault.CallFault.TheVariants as fault
use Rattle.wire_base.specs.declared.frame.Version.{Version}
use Rattle.wire_base.specs.declared.refusal.Refusal.{Refusal}
use Rattle.wire_base.specs.declared.reason.Reason.{Reason}
use Rattle.channel_credit.specs.declared.take_fault.TakeFault.{TakeFault}
use Rattle.channel_credit.specs.declared.take_fault.TakeFault.TheVariants as take_fault
use Rattle.mux_items.specs.declared.channel.ChannelKey.{ChannelKey}
use Rattle.mux_items.specs.Bodies.{ChannelFrame, FrameBody}
use Rattle.mux_state.specs.State.{ChannelState}
use Rattle.mux_state.specs.Next.{frames_due, framed_state, read_count, settled}
use Rattle.mux_state.specs.Book.{Entry}
use Rattle.mux_state.specs.Book as book
use Rattle.mux_end.specs.declared.known.Standing.{Standing}
use Rattle.mux_end.specs.declared.known.Standing.TheVariants as standing

-- an entry of the book
abbrev pub standing_in : Standing → book.Standing
standing_in (standing.Kept now) = book.Kept now
standing_in (standing.Gone tally) = book.Gone tally

abbrev pub entry_in : ChannelKey → Standing → Entry
entry_in c s = record { key = c; standing = standing_in s }

abbrev pub HasVersion : Version → book.Standing → Type 0
HasVersion v (book.Kept now) = now.version ≡ v
HasVersion v (book.Gone tally) = Unit {0}

-- a channel of an end of this version
pub record IsOf (v : Version) (entry : Entry) : Type 0 where
  pub fits : fits_id v entry.key.id ≡ true
  pub one_version : HasVersion v entry.standing

-- all frames that are due on a channel
abbrev pub frames_in : ChannelKey → book.Standing → List ChannelFrame
frames_in c (book.Kept now) = frames_due c now
frames_in c (book.Gone tally) = []

-- what a frame makes of a channel, and the frames that it makes due
abbrev pub heeds : FrameBody → ChannelState → ChannelState
heeds body s = settled (framed_state body s)

abbrev pub frames_after : ChannelKey → FrameBody → Option book.Standing → List ChannelFrame
frames_after c body (Some (book.Kept now)) = frames_due c (framed_state body now)
frames_after c body standing = []

-- how many bytes a read moves, and the unread bytes
abbrev pub count_in : (max : ℕ) → book.Standing → ℕ
count_in max (book.Kept now) = read_count max now
count_in max (book.Gone tally) = 0

abbrev pub unread_in : book.Standing → List ℕ
unread_in (book.Kept now) = now.unread
unread_in (book.Gone tally) = []

abbrev pub count_found : (max : ℕ) → Option book.Standing → ℕ
count_found max None = 0
count_found max (Some standing) = count_in max standing

abbrev pub unread_found : Option book.Standing → List ℕ
unread_found None = []
unread_found (Some standing) = unread_in standing

-- a call is refused by its test, and then changes nothing; else it leaves what follows. After want of memory what is left is free
abbrev pub Leaves : {S A : Type 0} → Option Refusal → (old after new : S) → Result A CallFault → Type 0
Leaves (Some r) old after new (Err (fault.Refused s)) = (s ≡ r) × (new ≡ old)
Leaves None old after new (Ok answer) = new ≡ after
Leaves None old after new (Err fault.OutOfMemory) = Unit {0}
Leaves refused old after new result = ⊥

-- the same of a frame
abbrev pub Takes : {S A : Type 0} → Option Reason → (old after new : S) → Result A TakeFault → Type 0
Takes (Some r) old after new (Err (take_fault.Refused s)) = (s ≡ r) × (new ≡ old)
Takes None old after new (Ok answer) = new ≡ after
Takes None old after new (Err take_fault.OutOfMemory) = Unit {0}
Takes refused old after new result = ⊥
