use Rattle.std.proofs.Common.{◌++◌, ◌∷◌, [], ◌∙◌, ap, sym, map, append_assoc}
use Rattle.std.specs.List.{range_with_len}
use Rattle.report_text.specs.Names.{thread_name}
use Rattle.report_text.proofs.Naming.{map_range_more}
use Rattle.report_text.proofs.names.add_threads.Goals as goal

pub loop-thread-preserved : goal.loop-thread-preserved
loop-thread-preserved c =
    let name = thread_name c.args.app.now.name in
    let names = map name (range_with_len 0 c.loop-thread.thread) in
    c.in_ok-push.ensures.ok
    ∙ ap (λ all. all ++ c.in_ok-thread_name.field-0 ∷ []) c.loop-thread.invariant
    ∙ append_assoc c.args.names.now names (c.in_ok-thread_name.field-0 ∷ [])
    ∙ ap (λ one. c.args.names.now ++ (names ++ one ∷ [])) (c.in_ok-thread_name.ensures ∙ ap (λ app. thread_name app c.loop-thread.thread) c.as_slice.ensures)
    ∙ ap (λ all. c.args.names.now ++ all) (sym (map_range_more name c.loop-thread.thread))
