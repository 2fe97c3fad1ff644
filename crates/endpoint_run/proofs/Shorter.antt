-- The content that a frame brings is shorter than the frame.
use Rattle.std.specs.Prelude.{if◌then◌else◌, true, false}
use Rattle.std.specs.Int.{to_be_bytes, w16, w32}
use Rattle.std.proofs.Common.{◌≡◌, ℕ, ◌+◌, ◌<◌, ◌≤◌, List, [], ◌∷◌, ◌++◌, length, refl, sym, subst, arith, length-append, Option, Some, None}
use Rattle.wire_base.specs.declared.frame.Version.{Version}
use Rattle.wire_base.specs.declared.frame.Version.TheVariants as version
use Rattle.wire_base.specs.declared.reason.Reason.{Reason}
use Rattle.wire_base.specs.Shortest.{array_head, unsigned_text, bin_head}
use Rattle.frame_text.specs.Frames.{is_empty, code_number, origin_text, payload_element}
use Rattle.mux_items.specs.declared.channel.ChannelKey.{ChannelKey}
use Rattle.mux_items.specs.Applying.{lacks_room}
use Rattle.mux_items.specs.Bodies.{FrameBody, Content, ChannelFrame, flip, frame_on, frame_text, code_of, origin_of}
use Rattle.mux_items.specs.Items.{Item, Got, Rejected}
use Rattle.mux_items.specs.Refusals.{frame_refusal}
use Rattle.mux_run.proofs.WholeFrames.{frame_text_not_empty}
use Rattle.endpoint_run.specs.Next.{item_by_refusal, frame_item}

longer : (xs ys : List ℕ) → 0 < length xs → length ys < length (xs ++ ys)
longer xs ys h = omega (arith, h, length-append xs ys)

element_holds : (bytes : List ℕ) → length bytes ≤ length (payload_element bytes)
element_holds [] = omega arith
element_holds (b ∷ bytes) = omega (arith, length-append (bin_head (length (b ∷ bytes))) (b ∷ bytes))

packed_longer : (head code id origin bytes : List ℕ) → 0 < length code → length bytes < length (head ++ code ++ id ++ origin ++ payload_element bytes)
packed_longer head code id origin bytes some = omega (
  arith,
  some,
  element_holds bytes,
  length-append (head ++ code ++ id ++ origin) (payload_element bytes),
  length-append (head ++ code ++ id) origin,
  length-append (head ++ code) id,
  length-append head code,
)

content_shorter : (v : Version) (key : ChannelKey) (bytes : List ℕ) → length bytes < length (frame_text v (frame_on key (Content bytes)))
content_shorter version.One key bytes = longer (code_number (code_of (Content bytes)) ∷ to_be_bytes w32 key.id ++ to_be_bytes w16 (length bytes)) bytes (omega arith)
content_shorter version.Two key bytes =
    packed_longer (array_head (if is_empty bytes then 2 else 2 + 1)) (unsigned_text (code_number (code_of (Content bytes)))) (unsigned_text key.id) (origin_text (origin_of version.Two key)) bytes (omega arith)
content_shorter version.Three key bytes =
    packed_longer (array_head (if is_empty bytes then 3 else 3 + 1)) (unsigned_text (code_number (code_of (Content bytes)))) (unsigned_text key.id) (origin_text (origin_of version.Three key)) bytes (omega arith)

-- how much content an item brings
abbrev pub content_size : Item → ℕ
content_size (Got place key (Content bytes)) = length bytes
content_size item = 0

body_shorter : (v : Version) (place : ℕ) (f : ChannelFrame) → content_size (Got place (flip f).key f.body) < length (frame_text v f)
body_shorter v place f = by f.body refl
  where
    by : (body : FrameBody) → f.body ≡ body → content_size (Got place (flip f).key body) < length (frame_text v f)
    by (Content bytes) e = subst (λ body. length bytes < length (frame_text v (frame_on f.key body))) (sym e) (content_shorter v f.key bytes)
    by body e = frame_text_not_empty v f

pub frame_shorter : (v : Version) (place : ℕ) (f : ChannelFrame) (m : List Item) → content_size (frame_item v place f m) < length (frame_text v f)
frame_shorter v place f m = by (frame_refusal v (flip f).key f.body m)
  where
    by : (r : Option Reason) → content_size (item_by_refusal v place (flip f).key f.body m r) < length (frame_text v f)
    by None = elim (lacks_room v f.body m) as (λ b. content_size (if b then Rejected place (flip f).key f.body else Got place (flip f).key f.body) < length (frame_text v f)) [
      | true ↦ frame_text_not_empty v f
      | false ↦ body_shorter v place f
    ]
    by (Some reason) = frame_text_not_empty v f
