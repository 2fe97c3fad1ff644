-- The frames that an end sends have spellings.
use Rattle.std.proofs.Common.{◌≡◌, ℕ, ◌<◌, ◌≤◌, List, length, Bool, true, false, refl, arith, Some, length-append}
use Rattle.std.specs.Prelude.{if◌then◌else◌, ◌&&◌, nat_lt}
use Rattle.std.specs.Str.{is_utf8}
use Rattle.std.proofs.lemmas.Bool.{lt-ltb, le-leb}
use Rattle.std.proofs.lemmas.Str.{is_utf8-from_IsUtf8}
use Rattle.wire_base.specs.declared.frame.Version.{Version}
use Rattle.wire_base.specs.declared.frame.Version.TheVariants as version
use Rattle.wire_base.specs.declared.limits.TheConstants.{COUNT_LIMIT, MAX_PAYLOAD}
use Rattle.wire_base.specs.Shortest.{unsigned_text, str_head}
use Rattle.frame_text.specs.Frames.{fits, fits_code, fits_id, fits_origin, fits_length, payload_text}
use Rattle.wire_base.specs.declared.frame.Code.TheVariants as code
use Rattle.wire_base.specs.declared.frame.Origin.TheVariants as origin
use Rattle.wire_base.specs.declared.frame.Payload.TheVariants as payload
use Rattle.mux_items.specs.declared.channel.ChannelKey.{ChannelKey}
use Rattle.mux_items.specs.Bodies.{FrameBody, Offer, OfferAccepted, Content, ContentWritingCompleted, ChannelTerminated, ContentProcessed, frame_on, frame_of, is_one, origin_of, code_of, payload_of}
use Rattle.mux_items.specs.Due.{written_window}
use Rattle.mux_items.specs.Limits.{longest_name, piece_size}

-- a choice of two short lists is short
short_choice : (b : Bool) (xs ys : List ℕ) (most : ℕ) → length xs ≤ most → length ys ≤ most → length (if b then xs else ys) ≤ most
short_choice true xs ys most x y = x
short_choice false xs ys most x y = y

unsigned_short : (n : ℕ) → length (unsigned_text n) ≤ 9
unsigned_short n =
    short_choice (nat_lt n 0x80) _ _ 9 (omega arith)
    (short_choice (nat_lt n 0x100) _ _ 9 (omega arith)
    (short_choice (nat_lt n 0x10000) _ _ 9 (omega arith)
    (short_choice (nat_lt n 0x100000000) _ _ 9 (omega arith) (omega arith))))

str_head_short : (n : ℕ) → length (str_head n) ≤ 5
str_head_short n =
    short_choice (nat_lt n 0x20) _ _ 5 (omega arith)
    (short_choice (nat_lt n 0x100) _ _ 5 (omega arith)
    (short_choice (nat_lt n 0x10000) _ _ 5 (omega arith) (omega arith)))

all_four : (a b c d : Bool) → a ≡ true → b ≡ true → c ≡ true → d ≡ true → (a && b && c && d) ≡ true
all_four a b c d p q r s = cc

side_fits : (own : Bool) → fits_origin version.Three (if own then origin.Sender else origin.Receiver) ≡ true
side_fits true = refl
side_fits false = refl

origin_fits : (v : Version) (key : ChannelKey) → fits_origin v (origin_of v key) ≡ true
origin_fits version.One key = refl
origin_fits version.Two key = refl
origin_fits version.Three key = side_fits key.own

-- a body whose code, and whose payload's length, fit
body_fits : (v : Version) (key : ChannelKey) (body : FrameBody) → fits_id v key.id ≡ true
    → fits_code v (code_of body) (payload_of body) ≡ true → fits_length v (payload_of body) ≡ true → fits v (frame_of v (frame_on key body)) ≡ true
body_fits v key body id code long = all_four _ _ _ _ code id (origin_fits v key) long

code_fits_offer : (v : Version) (name : List ℕ) (window : ℕ) → is_utf8 name ≡ true → window < COUNT_LIMIT
    → fits_code v code.Offer (payload.Offer name (written_window v window)) ≡ true
code_fits_offer version.One name window u w = rw u refl
code_fits_offer version.Two name window u w = rw (u, lt-ltb window COUNT_LIMIT w) refl
code_fits_offer version.Three name window u w = rw (u, lt-ltb window COUNT_LIMIT w) refl

code_fits_accepted : (v : Version) (window : ℕ) → window < COUNT_LIMIT → fits_code v code.OfferAccepted (payload.Accepted (written_window v window)) ≡ true
code_fits_accepted version.One window w = refl
code_fits_accepted version.Two window w = lt-ltb window COUNT_LIMIT w
code_fits_accepted version.Three window w = lt-ltb window COUNT_LIMIT w

code_fits_content : (v : Version) (bytes : List ℕ) → fits_code v code.Content (payload.Content bytes) ≡ true
code_fits_content version.One bytes = refl
code_fits_content version.Two bytes = refl
code_fits_content version.Three bytes = refl

code_fits_processed : (v : Version) (count : ℕ) → is_one v ≡ false → count < COUNT_LIMIT → fits_code v code.ContentProcessed (payload.Processed count) ≡ true
code_fits_processed version.One count p w = absurd cc
code_fits_processed version.Two count p w = lt-ltb count COUNT_LIMIT w
code_fits_processed version.Three count p w = lt-ltb count COUNT_LIMIT w

name_short : (name : List ℕ) (window : ℕ) → length name ≤ longest_name → length (payload_text (payload.Offer name (Some window))) ≤ MAX_PAYLOAD
name_short name window short = simp length-append (omega (arith, unsigned_short window, str_head_short (length name)))

length_fits_offer : (v : Version) (name : List ℕ) (window : ℕ) → length name ≤ longest_name → fits_length v (payload.Offer name (written_window v window)) ≡ true
length_fits_offer version.One name window short = le-leb _ _ (omega arith)
length_fits_offer version.Two name window short = le-leb _ _ (name_short name window short)
length_fits_offer version.Three name window short = le-leb _ _ (name_short name window short)

length_fits_accepted : (v : Version) (window : ℕ) → fits_length v (payload.Accepted (written_window v window)) ≡ true
length_fits_accepted version.One window = refl
length_fits_accepted version.Two window = le-leb _ _ (omega (arith, unsigned_short window))
length_fits_accepted version.Three window = le-leb _ _ (omega (arith, unsigned_short window))

length_fits_content : (v : Version) (bytes : List ℕ) → length bytes ≤ piece_size → fits_length v (payload.Content bytes) ≡ true
length_fits_content version.One bytes short = le-leb _ _ (omega arith)
length_fits_content version.Two bytes short = le-leb _ _ (omega arith)
length_fits_content version.Three bytes short = le-leb _ _ (omega arith)

length_fits_processed : (v : Version) (count : ℕ) → fits_length v (payload.Processed count) ≡ true
length_fits_processed version.One count = refl
length_fits_processed version.Two count = le-leb _ _ (omega (arith, unsigned_short count))
length_fits_processed version.Three count = le-leb _ _ (omega (arith, unsigned_short count))

code_fits_completed : (v : Version) → fits_code v code.ContentWritingCompleted payload.Nothing ≡ true
code_fits_completed version.One = refl
code_fits_completed version.Two = refl
code_fits_completed version.Three = refl

code_fits_terminated : (v : Version) → fits_code v code.ChannelTerminated payload.Nothing ≡ true
code_fits_terminated version.One = refl
code_fits_terminated version.Two = refl
code_fits_terminated version.Three = refl

length_fits_nothing : (v : Version) → fits_length v payload.Nothing ≡ true
length_fits_nothing version.One = refl
length_fits_nothing version.Two = refl
length_fits_nothing version.Three = refl

pub fits_offer : (v : Version) (key : ChannelKey) (name : List ℕ) (window : ℕ) → fits_id v key.id ≡ true → is_utf8 name ≡ true → length name ≤ longest_name → window < COUNT_LIMIT
    → fits v (frame_of v (frame_on key (Offer name (written_window v window)))) ≡ true
fits_offer v key name window id u short w =
    body_fits v key (Offer name (written_window v window)) id (code_fits_offer v name window u w) (length_fits_offer v name window short)

pub fits_accepted : (v : Version) (key : ChannelKey) (window : ℕ) → fits_id v key.id ≡ true → window < COUNT_LIMIT
    → fits v (frame_of v (frame_on key (OfferAccepted (written_window v window)))) ≡ true
fits_accepted v key window id w = body_fits v key (OfferAccepted (written_window v window)) id (code_fits_accepted v window w) (length_fits_accepted v window)

pub fits_content : (v : Version) (key : ChannelKey) (bytes : List ℕ) → fits_id v key.id ≡ true → length bytes ≤ piece_size
    → fits v (frame_of v (frame_on key (Content bytes))) ≡ true
fits_content v key bytes id short = body_fits v key (Content bytes) id (code_fits_content v bytes) (length_fits_content v bytes short)

pub fits_processed : (v : Version) (key : ChannelKey) (count : ℕ) → fits_id v key.id ≡ true → is_one v ≡ false → count < COUNT_LIMIT
    → fits v (frame_of v (frame_on key (ContentProcessed count))) ≡ true
fits_processed v key count id two w = body_fits v key (ContentProcessed count) id (code_fits_processed v count two w) (length_fits_processed v count)

pub fits_completed : (v : Version) (key : ChannelKey) → fits_id v key.id ≡ true → fits v (frame_of v (frame_on key ContentWritingCompleted)) ≡ true
fits_completed v key id = body_fits v key ContentWritingCompleted id (code_fits_completed v) (length_fits_nothing v)

pub fits_terminated : (v : Version) (key : ChannelKey) → fits_id v key.id ≡ true → fits v (frame_of v (frame_on key ChannelTerminated)) ≡ true
fits_terminated v key id = body_fits v key ChannelTerminated id (code_fits_terminated v) (length_fits_nothing v)

pub ruleset frames_fit = (is_utf8-from_IsUtf8, fits_offer, fits_accepted, fits_content, fits_completed, fits_terminated, fits_processed)
