-- What is spelled so is read.
use Rattle.std.proofs.Common.{◌≡◌, ℕ, ◌<◌, ltb, false, List, ◌++◌, length, Option, Some, Ok, refl, ap, ◌∙◌, arith, length-append}
use Rattle.std.specs.Prelude.{pos}
use Rattle.std.specs.Int.{Width, byte_len, from_be_bytes}
use Rattle.std.proofs.lemmas.Bool.{le-ltb, lt-ltb}
use Rattle.std.proofs.lemmas.List.{take_at, drop_at}
use Rattle.wire_base.specs.Head.{IsHead}
use Rattle.wire_base.specs.declared.limits.TheConstants.{COUNT_LIMIT}
use Rattle.wire_base.specs.declared.token.TokenHead.{TokenHead}
use Rattle.wire_base.specs.declared.token.HeadStep.TheVariants as step
use Rattle.wire_base.specs.declared.reason.Reason.{Reason}
use Rattle.wire_base.specs.Tokens.{follow, Sort, allowed, headed, head_at, token_at, inside, inner_at, count_in, field_at, bytes_at}
use Rattle.wire_base.proofs.HeadLemmas.{head_stays}

headed-again : {A : Type 0} (sort : Sort A) (reason : Reason) (h : TokenHead) (x : A) (b rest : List ℕ) → sort.says h ≡ Some x → headed sort reason (step.Got h (length b)) (b ++ rest) ≡ Ok (x, rest)
headed-again sort reason h x b rest says = rw (says, drop_at b rest (length b) refl) refl

pub head_at-again : {A : Type 0} (sort : Sort A) (reason : Reason) (h : TokenHead) (x : A) (b rest : List ℕ) → IsHead h b → sort.says h ≡ Some x → head_at sort reason (b ++ rest) ≡ Ok (x, rest)
unfolding head_at
head_at-again sort reason h x b rest is says =
    ap (λ s. headed sort reason s (b ++ rest)) (head_stays b rest h (length b) is) ∙ headed-again sort reason h x b rest says

pub token_at-again : {A B : Type 0} (sort : Sort A) (make : A → Option B) (reason : Reason) (h : TokenHead) (x : A) (y : B) (b rest : List ℕ) → IsHead h b → sort.says h ≡ Some x → make x ≡ Some y → token_at sort make reason (b ++ rest) ≡ Ok (y, rest)
unfolding token_at
token_at-again sort make reason h x y b rest is says makes =
    ap (λ r. follow r (λ z. allowed (length (b ++ rest)) reason (make z))) (head_at-again sort reason h x b rest is says)
    ∙ ap (λ o. allowed (length (b ++ rest)) reason o rest) makes

pub inner_at-again : {A B : Type 0} (sort : Sort A) (make : A → Option B) (reason : Reason) (h : TokenHead) (x : A) (y : B) (b rest : List ℕ) → IsHead h b → sort.says h ≡ Some x → make x ≡ Some y → inner_at sort make reason (b ++ rest) ≡ Ok (y, rest)
unfolding inner_at
inner_at-again sort make reason h x y b rest is says makes =
    ap (λ r. inside (length (b ++ rest)) reason r) (token_at-again sort make reason h x y b rest is says makes)

pub count_in-again : (n : ℕ) → n < COUNT_LIMIT → count_in (pos n) ≡ Some n
count_in-again n below = rw (lt-ltb n COUNT_LIMIT below) refl

pub field-again : {B : Type 0} (w : Width) (make : ℕ → Option B) (reason : Reason) (y : B) (b rest : List ℕ) → length b ≡ byte_len w → make (from_be_bytes w b) ≡ Some y → field_at w make reason (b ++ rest) ≡ Ok (y, rest)
unfolding field_at
field-again w make reason y b rest len makes =
    let long : ltb (length (b ++ rest)) (byte_len w) ≡ false = le-ltb (length (b ++ rest)) (byte_len w) (omega (arith, length-append b rest, len)) in
    rw (long, take_at b rest (byte_len w) len, drop_at b rest (byte_len w) len, makes) refl

pub bytes-again : (bytes rest : List ℕ) → bytes_at (length bytes) (bytes ++ rest) ≡ Ok (bytes, rest)
unfolding bytes_at
bytes-again bytes rest =
    let long : ltb (length (bytes ++ rest)) (length bytes) ≡ false = le-ltb (length (bytes ++ rest)) (length bytes) (omega (arith, length-append bytes rest)) in
    rw (long, take_at bytes rest (length bytes) refl, drop_at bytes rest (length bytes) refl) refl
