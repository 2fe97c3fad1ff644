use Rattle.std.proofs.Common.{lit<, sym}
use Rattle.std.proofs.lemmas.Str.Pattern.{strip_prefix_char}
use Rattle.text_words.proofs.Fronts.{front_in-a, front_in-b, front_in-none}
use Rattle.text_words.proofs.read.front.Goals as goal

pub returns-in-Some : goal.returns-in-Some
returns-in-Some c =
    let word = c.args.word.now in
    let all = strip_prefix_char 65 word c.strip_prefix.result c.strip_prefix.ensures.cases (lit< tt) in
    sym (front_in-a word c.in-Some.digits.now (rw c.in-Some.is at all))

pub returns-in_ok-strip_prefix-in-None : goal.returns-in_ok-strip_prefix-in-None
returns-in_ok-strip_prefix-in-None c =
    let word = c.args.word.now in
    let all = strip_prefix_char 66 word c.strip_prefix-in-None.result c.strip_prefix-in-None.ensures.cases (lit< tt) in
    sym (front_in-b word c.in_ok-strip_prefix-in-None.field-0.now (rw c.in_ok-strip_prefix-in-None.was at all))

pub returns-in_err-strip_prefix-in-None : goal.returns-in_err-strip_prefix-in-None
returns-in_err-strip_prefix-in-None c =
    let word = c.args.word.now in
    let a = strip_prefix_char 65 word c.strip_prefix.result c.strip_prefix.ensures.cases (lit< tt) in
    let b = strip_prefix_char 66 word c.strip_prefix-in-None.result c.strip_prefix-in-None.ensures.cases (lit< tt) in
    let e = front_in-none word (rw c.in-None.is at a) (rw c.in_err-strip_prefix-in-None.was at b) in
    rw c.from_residual.ensures (sym e)
