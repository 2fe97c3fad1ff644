-- The run of a list of steps: what happened at each of two joined ends.
use Rattle.std.specs.Prelude.{ℕ, ◌+◌, ◌-◌, min, List, [], ◌∷◌, ◌++◌, length, take, drop, slice_index_or, Bool, not, ◌&&◌, nat_lt, nat_le, if◌then◌else◌}
use Rattle.std.specs.Str.{bytes_eq}
use Rattle.wire_base.specs.declared.frame.Version.{Version}
use Rattle.wire_base.specs.declared.reason.Reason.TheVariants as reason
use Rattle.wire_base.specs.declared.state.Cause.{Cause}
use Rattle.wire_base.specs.declared.state.Cause.TheVariants as cause
use Rattle.frame_text.specs.Hello.{hello}
use Rattle.mux_items.specs.Bodies.{ChannelFrame, flip, frame_text, frame_texts}
use Rattle.mux_items.specs.Items.{Item, Hello, End, is_running}
use Rattle.mux_items.specs.Parties.{party_by}
use Rattle.mux_items.specs.Due.{sent, got}
use Rattle.mux_items.specs.Limits.{most_bytes}
use Rattle.mux_items.specs.Refusals.{is_ready}
use Rattle.mux_items.specs.Calls.{called}
use Rattle.mux_items.specs.Applying.{apply_frame, place_at}
use Rattle.mux_run.specs.declared.steps.Side.{Side}
use Rattle.mux_run.specs.declared.steps.Side.TheVariants.{A, B}
use Rattle.mux_run.specs.declared.steps.Step.{Step}
use Rattle.mux_run.specs.declared.steps.Step.TheVariants as step

-- one side: its items, newest first, and how many of the other side's bytes were delivered to it
pub record RunSide : Type 0 where
  pub items : List Item
  pub delivered : ℕ

-- whether the end of this side runs
abbrev pub runs : RunSide → Bool
runs x = is_running x.items

pub record World : Type 0 where
  pub a : RunSide
  pub b : RunSide

-- the version, and the nonce of each side
pub record Terms : Type 0 where
  pub version : Version
  pub nonce_a : List ℕ
  pub nonce_b : List ℕ

-- the nonces are those of A and of B
abbrev pub terms_of : Version → (nonces : List (List ℕ)) → Terms
terms_of v nonces = record { version = v; nonce_a = slice_index_or nonces 0 []; nonce_b = slice_index_or nonces 1 [] }

-- the same terms as one side sees them: its own nonce and its peer's
pub record SideTerms : Type 0 where
  pub version : Version
  pub own : List ℕ
  pub peer : List ℕ

abbrev pub terms_at_a : Terms → SideTerms
terms_at_a terms = record { version = terms.version; own = terms.nonce_a; peer = terms.nonce_b }

abbrev pub terms_at_b : Terms → SideTerms
terms_at_b terms = record { version = terms.version; own = terms.nonce_b; peer = terms.nonce_a }

abbrev pub turned : SideTerms → SideTerms
turned w = record { version = w.version; own = w.peer; peer = w.own }

-- all bytes that a side with this nonce has emitted: its handshake, and the texts of all frames that were due
abbrev pub out : Version → (nonce : List ℕ) → List Item → List ℕ
out v nonce items = hello v nonce ++ frame_texts v (sent v items)

-- how long the peer's handshake is
abbrev pub greeting_size : SideTerms → ℕ
greeting_size w = length (hello w.version w.peer)

-- the bytes on their way to x, whose peer y is
abbrev pub in_flight : SideTerms → RunSide → RunSide → List ℕ
in_flight w x y = drop x.delivered (out w.version w.peer y.items)

-- the frames whose texts lie whole in the first n bytes of all their texts
abbrev pub whole_frames : Version → ℕ → List ChannelFrame → List ChannelFrame
whole_frames v n [] = []
whole_frames v n (f ∷ fs) = if nat_le (length (frame_text v f)) n then f ∷ whole_frames v (n - length (frame_text v f)) fs else []

-- the item of the peer's whole handshake: nonces must differ
abbrev pub greet : SideTerms → Item
greet w =
    if bytes_eq w.own w.peer then End (cause.Refused (place_at (greeting_size w - length w.peer)) reason.SameNonce)
    else Hello (party_by w.own w.peer)

-- the handshake is applied once it is whole
abbrev pub greeted : SideTerms → (delivered : ℕ) → List Item → List Item
greeted w delivered items =
    if is_running items && not (is_ready w.version items) && nat_le (greeting_size w) delivered then greet w ∷ items else items

-- one frame after the other, the first of which stands at this place, while the end runs
abbrev pub apply_frames : Version → (place : ℕ) → List ChannelFrame → List Item → List Item
apply_frames v place [] items = items
apply_frames v place (f ∷ fs) items =
    if is_running items
    then apply_frames v (place + length (frame_text v f)) fs (apply_frame v place (flip f).key f.body items)
    else items

-- the whole frames of the delivered bytes that weren't applied yet
abbrev pub next_frames : SideTerms → (delivered : ℕ) → (applied : ℕ) → RunSide → List ChannelFrame
next_frames w delivered applied y = drop applied (whole_frames w.version (delivered - greeting_size w) (sent w.version y.items))

-- the place of the frame after so many of y's
abbrev pub place_after : SideTerms → (applied : ℕ) → RunSide → ℕ
place_after w applied y = greeting_size w + length (frame_texts w.version (take applied (sent w.version y.items)))

-- x applies what is whole of the first so many bytes of y
abbrev pub settled : SideTerms → (delivered : ℕ) → List Item → RunSide → RunSide
settled w delivered items y =
    let after = greeted w delivered items in
    record {
      items = if is_ready w.version after
          then apply_frames w.version (place_after w (length (got after)) y) (next_frames w delivered (length (got after)) y) after
          else after;
      delivered = delivered;
    }

-- how many bytes a delivery of at most n adds
abbrev pub added : SideTerms → (n : ℕ) → RunSide → RunSide → ℕ
added w n x y = min n (length (in_flight w x y))

-- a delivery that would pass the most bytes that an end is fed
abbrev pub is_spent : SideTerms → (n : ℕ) → RunSide → RunSide → Bool
is_spent w n x y = nat_lt most_bytes (x.delivered + added w n x y)

-- what a delivery makes of the side x that it goes to
abbrev pub delivered_to : SideTerms → (n : ℕ) → RunSide → RunSide → RunSide
delivered_to w n x y =
    if not (runs x) then x
    else if is_spent w n x y then record { items = End cause.Spent ∷ x.items; delivered = x.delivered }
    else settled w (x.delivered + added w n x y) x.items y

-- a side whose end ends for this cause, if it runs
abbrev pub stopped : Cause → RunSide → RunSide
stopped cause x = if runs x then record { items = End cause ∷ x.items; delivered = x.delivered } else x

-- a side into which the stream ended
abbrev pub ended_side : RunSide → RunSide
ended_side x = stopped cause.InputEnded x

-- what a step makes of its side x
abbrev pub side_after : SideTerms → Step → RunSide → RunSide → RunSide
side_after w (step.Call side c) x y = settled w x.delivered (called w.version c x.items) y
side_after w (step.Deliver side n) x y = delivered_to w n x y
side_after w (step.End side) x y = ended_side x

abbrev pub side_of : Step → Side
side_of (step.Call side c) = side
side_of (step.Deliver side n) = side
side_of (step.End side) = side

abbrev pub happens_at : Terms → Side → Step → World → World
happens_at terms A s w = record { a = side_after (terms_at_a terms) s w.a w.b; b = w.b }
happens_at terms B s w = record { a = w.a; b = side_after (terms_at_b terms) s w.b w.a }

abbrev pub happens : Terms → Step → World → World
happens terms s w = happens_at terms (side_of s) s w

abbrev pub fresh : RunSide
fresh = record { items = []; delivered = 0 }

abbrev pub start : World
start = record { a = fresh; b = fresh }

abbrev pub run_from : Terms → World → List Step → World
run_from terms w [] = w
run_from terms w (s ∷ steps) = run_from terms (happens terms s w) steps

abbrev pub run : Terms → List Step → World
run terms steps = run_from terms start steps
