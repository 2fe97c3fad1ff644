-- A rule that a body breaks is broken within it.
use Rattle.std.specs.Prelude.{ℕ, ◌≤◌, ◌==◌, List, length, Bool, true, false, if◌then◌else◌, Result, Ok, Err}
use Rattle.std.proofs.Common.{◌≡◌, subst, arith}
use Rattle.wire_base.specs.Tree.{Tree}
use Rattle.wire_base.specs.declared.reason.Reason.{Reason}
use Rattle.wire_base.specs.Front.{Front, Whole, Short, Broken, front_of}
use Rattle.wire_base.specs.Tokens.{Reading}
use Rattle.wire_base.specs.Values.{max_nesting}
use Rattle.wire_base.specs.declared.reading.Fault.TheVariants.{Ends, Breaks}
use Rattle.pack_value.specs.Answer.{front}
use Rattle.pack_value.specs.Reading.{value_at}
use Rattle.rpc_items.specs.declared.messages.Message.{Message}
use Rattle.rpc_items.specs.Reading.{message_in}
use Rattle.message_body.specs.declared.encoding.Encoding.{Encoding}
use Rattle.message_body.specs.declared.encoding.Encoding.TheVariants.{Json, Pack}
use Rattle.message_body.specs.Found.{at_start, body_in, json_in, message_found, one_value, pack_in, value_in}

abbrev IsBrokenWithin : {A : Type 0} → ℕ → Result A (ℕ × Reason) → Type 0
IsBrokenWithin n (Ok x) = Unit {0}
IsBrokenWithin n (Err broken) = broken.0 ≤ n

start_within : {A : Type 0} (n : ℕ) (x : Result A Reason) → IsBrokenWithin n (at_start x)
start_within n (Ok x) = tt
start_within n (Err r) = omega arith

abbrev IsFrontWithin : ℕ → Front Tree → Type 0
IsFrontWithin n (Whole t k) = k ≤ n
IsFrontWithin n Short = Unit {0}
IsFrontWithin n (Broken k r) = k ≤ n

front_within : (n : ℕ) (r : Reading Tree) → IsFrontWithin n (front_of n r)
front_within n (Ok x) = omega arith
front_within n (Err Ends) = tt
front_within n (Err (Breaks left r)) = omega arith

if_within : {A : Type 0} (b : Bool) (n : ℕ) (x y : Result A (ℕ × Reason)) → IsBrokenWithin n x → IsBrokenWithin n y → IsBrokenWithin n (if b then x else y)
if_within true n x y hx hy = hx
if_within false n x y hx hy = hy

one_within : (n : ℕ) (f : Front Tree) → IsFrontWithin n f → IsBrokenWithin n (one_value n f)
one_within n (Whole t k) h = if_within (k == n) n (Ok t) _ tt h
one_within n Short h = omega arith
one_within n (Broken k r) h = h

pack_within : (b : List ℕ) → IsBrokenWithin (length b) (pack_in b)
unfolding front
pack_within b = one_within (length b) (front b) (front_within (length b) (value_at max_nesting b))

value_within : (e : Encoding) (b : List ℕ) → IsBrokenWithin (length b) (value_in e b)
value_within Json b = start_within (length b) (json_in b)
value_within Pack b = pack_within b

message_within : (n : ℕ) (x : Result Tree (ℕ × Reason)) → IsBrokenWithin n x → IsBrokenWithin n (message_found x)
message_within n (Ok value) h = start_within n (message_in value)
message_within n (Err e) h = h

pub broken_within : (e : Encoding) (b : List ℕ) (k : ℕ) (r : Reason) → body_in e b ≡ Err (k, r) → k ≤ length b
broken_within e b k r h = subst (λ (x : Result Message (ℕ × Reason)). IsBrokenWithin (length b) x) h (message_within (length b) (value_in e b) (value_within e b))
