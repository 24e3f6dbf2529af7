use Rattle.std.proofs.Common.{ℕ, List, ◌++◌, ◌∙◌, ap, subst}
use Rattle.obman_c_whole.specs.Handing.{HandsOver, gives, lacks}
use Rattle.obman_c_whole.specs.Scripts as scripts
use Rattle.obman_c_whole.proofs.script.om_script.Goals as goal

-- what is handed over is what was written to nothing
pub returns-in-Ok-run_whole : goal.returns-in-Ok-run_whole
returns-in-Ok-run_whole c =
    let ended = c.in-Ok-run_whole.ensures.answers in
    elim c.tell.ensures [
      | gives over ↦ scripts.answers c.in-Ok.limits c.in-Ok.ensures.same ended.0 ended.2
          (subst (λ (bytes : List ℕ). HandsOver bytes c.tell.result c.args.answers.now c.tell.new.room
          c.tell.new.length)
          (ended.1 ∙ ap (λ (front : List ℕ). front ++ ended.0) c.new-sink.ensures.bytes)
          over)
      | lacks none room length ↦ scripts.lacks c.in-Ok.ensures.allowed none room length
    ]
