use Rattle.ob_store.proofs.Cited.{arith, cond, None, w64, to_le_bytes, on_ok_weaker, option, descr_text, five_behind}
use Rattle.ob_name.specs.Spelling.{name_text}
use Rattle.ob_body.specs.Spelling.{body_text}
use Rattle.ob_rights.specs.Spelling.{rights_text}
use Rattle.ob_store.proofs.writing_objects.write_object.Goals as goal

pub returns-clause-text : goal.returns-clause-text
returns-clause-text c = on_ok_weaker c.write_name.result (λ t. five_behind c.args.out.now.items
    (to_le_bytes w64 c.args.label.now.birth) (descr_text c.args.label.now.descr) (rights_text c.args.header.now.grant)
    (option body_text c.args.header.now.body)
    (option name_text (cond c.args.label.now.is_named c.args.name.now None)) c.write.new.out.items
    c.write_descr.new.out.items c.write-2.new.out.items c.write-3.new.out.items c.write_name.new.out.items
    c.in_ok-write.ensures.text c.in_ok-write_descr.ensures c.in_ok-write-2.ensures.text c.in_ok-write-3.ensures.text t)
    c.write_name.ensures.text

pub returns-clause-fits : goal.returns-clause-fits
returns-clause-fits c = search (arith, on_ok_weaker)
