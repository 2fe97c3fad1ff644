-- A head is its front, whatever follows.
use Rattle.std.proofs.Common.{◌≡◌, ℕ, ◌≤◌, List, length, take, arith}
use Rattle.std.proofs.lemmas.List.{length-take}
use Rattle.wire_base.specs.declared.token.TokenHead.{TokenHead}
use Rattle.wire_base.specs.declared.token.HeadStep.TheVariants.{Got}
use Rattle.wire_base.specs.Head.{head_of}
use Rattle.wire_base.proofs.HeadLemmas.{head_within, head_front}

pub record HeadFront (bytes : List ℕ) (h : TokenHead) (n : ℕ) : Type 0 where
  pub within : n ≤ length bytes
  pub len : length (take n bytes) ≡ n
  pub same : head_of (take n bytes) ≡ Got h n

pub head-front : (bytes : List ℕ) (h : TokenHead) (n : ℕ) → head_of bytes ≡ Got h n → HeadFront bytes h n
head-front bytes h n e =
    let within : n ≤ length bytes = (head_within bytes h n e).1 in
    record { within = within; len = simp length-take (omega arith); same = head_front bytes h n e }
