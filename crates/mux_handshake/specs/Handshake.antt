-- Reading the peer's handshake from left to right, token by token, up to the first token that breaks a rule.
use Rattle.std.specs.Prelude.{ℕ, List, length, ℤ, pos, negsuc, if◌then◌else◌, Option, None, Ok, Err}
use Rattle.std.specs.Int.{w8}
use Rattle.std.specs.Str.{bytes_eq}
use Rattle.wire_base.specs.declared.frame.Version.{Version}
use Rattle.wire_base.specs.declared.frame.Version.TheVariants as version
use Rattle.wire_base.specs.declared.reason.Reason.TheVariants.{BadMagic, BadVersion, SameNonce, BadShape2}
use Rattle.wire_base.specs.declared.reading.Fault.TheVariants.{Breaks}
use Rattle.wire_base.specs.Tokens.{Reader, Reading, ◌>>=◌, done, follow, allowed, only, a_number, a_bin, an_array, count_in, head_at, token_at, field_at, bytes_at}
use Rattle.wire_base.specs.Front.{Front, front_of}
pub use Rattle.wire_base.specs.Front.{Whole, Short, Broken}
use Rattle.mux_items.specs.declared.party.Party.{Party}
use Rattle.mux_items.specs.declared.party.Party.TheVariants.{Neither}
use Rattle.mux_items.specs.Parties.{party_by}
use Rattle.mux_items.specs.Limits.{nonce_size}

-- the peer's nonce, which tells the own party; equal nonces are refused once the peer's is whole
unfoldable pub nonce_at : (own : List ℕ) → Reader Party
nonce_at own bytes = follow (bytes_at nonce_size bytes) (λ nonce rest. if bytes_eq own nonce then Err (Breaks (length bytes) SameNonce) else Ok (party_by own nonce, rest))

-- version 1: four bytes, each a token of its own, and the nonce
unfoldable pub plain_at : (own : List ℕ) → Reader Party
plain_at own = do
  first ← field_at w8 (only 0x2f) BadMagic
  second ← field_at w8 (only 0xdf) BadMagic
  third ← field_at w8 (only 0x1d) BadMagic
  fourth ← field_at w8 (only 0x50) BadMagic
  nonce_at own

abbrev pub major_in : ℤ → Option ℕ
major_in (pos n) = only 2 n
major_in (negsuc k) = None

-- the major number: a whole number, which is 2
unfoldable pub major_at : Reader ℕ
major_at bytes = follow (head_at a_number BadShape2 bytes) (λ number. allowed (length bytes) BadVersion (major_in number))

-- version 2: an array of two, which are an array of the major and the minor number, and the nonce
unfoldable pub packed_at : (own : List ℕ) → Reader Party
packed_at own = do
  parts ← token_at an_array (only 2) BadShape2
  numbers ← token_at an_array (only 2) BadShape2
  major ← major_at
  minor ← token_at a_number count_in BadShape2
  size ← token_at a_bin (only nonce_size) BadShape2
  nonce_at own

-- version 3 has no handshake
abbrev pub handshake_at : Version → (own : List ℕ) → Reader Party
handshake_at version.One own = plain_at own
handshake_at version.Two own = packed_at own
handshake_at version.Three own = done Neither

-- a whole handshake, which is the party that this end has by it, and its length; too few bytes to tell; or a token that breaks a rule, by its offset
abbrev pub Handshake : Type 0
Handshake = Front Party

-- what stands at the front of these bytes, at an end with this nonce
unfoldable pub handshake : Version → (own : List ℕ) → List ℕ → Handshake
handshake v own bytes = front_of (length bytes) (handshake_at v own bytes)
