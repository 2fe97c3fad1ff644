use Rattle.std.proofs.Common.{◌≡◌, sym, ap, ◌∙◌, Some}
use Rattle.wire_base.specs.Tree.{items, trees_of}
use Rattle.wire_base.specs.View.{tree_of}
use Rattle.text_words.specs.Json.{json_in}
use Rattle.text_words.proofs.ArgumentLists.{array_in-items}
use Rattle.text_words.proofs.json_texts.array.Goals as goal

pub returns-in-Items : goal.returns-in-Items
returns-in-Items c =
    let shape : c.in-Some.value ≡ items (trees_of c.in-Items.values) = sym c.value.view_is ∙ ap tree_of c.in-Items.is in
    let read : json_in c.args.text.now ≡ Some (items (trees_of c.in-Items.values)) = sym c.in_ok-value.ensures ∙ c.in-Some.is ∙ ap Some shape in
    let is = array_in-items c.args.text.now c.in-Items.values read in
    rw is (ap Some c.in-Items.values-is)
