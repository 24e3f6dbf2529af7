use Rattle.ob_store.proofs.Cited.{◌∷◌, [], on_ok_weaker, object_of, tag_of, saved_of, object_text, two_behind}
use Rattle.ob_store.proofs.writing_objects.write_found.Goals as goal

pub returns-in_ok-push-in-Some-clause-text : goal.returns-in_ok-push-in-Some-clause-text
returns-in_ok-push-in-Some-clause-text c =
    let f = c.in-Some.found in
    rw c.in-Some.is (on_ok_weaker c.write_object.result
    (λ t. two_behind c.args.out.now.items (1 ∷ []) c.push.new.self.items c.write_object.new.out.items
    c.in_ok-push-in-Some.ensures.items
    (object_text (saved_of (object_of f.header.now (tag_of f.label.now f.name.now)) f.header.now.body)) t)
    c.write_object.ensures.text)
