-- Calls on a channel that answer nothing more than that they were accepted.
use Rattle.std.specs.Prelude.{List, [], ◌∷◌, ◌++◌, Option, Some}
use Rattle.wire_base.specs.declared.refusal.Refusal.{Refusal}
use Rattle.mux_items.specs.declared.channel.ChannelKey.{ChannelKey}
use Rattle.mux_items.specs.Bodies.{ChannelFrame, ChannelTerminated, frame_on}
use Rattle.mux_items.specs.Items.{Item, DidWrite, DidComplete, DidTerminate}
use Rattle.mux_state.specs.State.{ChannelState}
use Rattle.mux_state.specs.Next.{completing_state, frames_due, settled, terminated_state, written_state}
use Rattle.mux_state.specs.Tests.{open_test, write_test, writing_test}
use Rattle.mux_state.specs.Book as book
use Rattle.mux_end.specs.declared.channel_call.ChannelCall.{ChannelCall}
use Rattle.mux_end.specs.declared.channel_call.ChannelCall.TheVariants.{Write, Complete, Terminate}

-- the item of an accepted call
abbrev pub item_of : ChannelKey → ChannelCall → Item
item_of c (Write bytes) = DidWrite c bytes.now
item_of c Complete = DidComplete c
item_of c Terminate = DidTerminate c

-- why a kept channel refuses it
abbrev pub test_of : ChannelCall → ChannelState → Option Refusal
test_of (Write bytes) s = write_test bytes.now s
test_of Complete s = writing_test s
test_of Terminate s = open_test s

-- what it makes of a kept channel before what is due is sent
abbrev pub made_state : ChannelCall → ChannelState → ChannelState
made_state (Write bytes) s = written_state bytes.now s
made_state Complete s = completing_state s
made_state Terminate s = terminated_state s

-- and after
abbrev pub called_state : ChannelCall → ChannelState → ChannelState
called_state call s = settled (made_state call s)

-- the frame of the call itself
abbrev pub own_frame : ChannelKey → ChannelCall → List ChannelFrame
own_frame c (Write bytes) = []
own_frame c Complete = []
own_frame c Terminate = frame_on c ChannelTerminated ∷ []

-- all frames that it makes due
abbrev pub called_frames : ChannelKey → ChannelCall → Option book.Standing → List ChannelFrame
called_frames c call (Some (book.Kept now)) = own_frame c call ++ frames_due c (made_state call now)
called_frames c call standing = []
