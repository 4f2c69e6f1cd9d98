-- `play` is `play_of`, by the command: a start told by `begun`, a run by `ran`.
use Rattle.tables.specs.Names.{key_of}
use Rattle.steps.specs.Turn.{insert_of, delete_of, find_of, scan_of}
use Rattle.tally.specs.Playing.{play_by}
use Rattle.playing.proofs.Told.{begun-told, ran-told, started_on}
use mir.Syntax.{w32}
use mir.ValLaws.{to_z-of_z}
use borrow.Author.Rules.{rules}
use Rattle.playing.proofs.play.Goals as goal

pub returns-in-Insert-clause-told : goal.returns-in-Insert-clause-told
unfolding play_by
returns-in-Insert-clause-told c = rw c.in-Insert.is (begun-told _ _ _ (started_on c.start_insert-reply.result c.shown.result c.args.lent.now c.args.board (λ s. insert_of s c.in-Insert.w (key_of c.in-Insert.k)) c.shown.ensures (rw (to_z-of_z w32 c.in-Insert.k (search rules)) at c.start_insert-reply.ensures)) c.begun.ensures)

pub returns-in-Delete-clause-told : goal.returns-in-Delete-clause-told
unfolding play_by
returns-in-Delete-clause-told c = rw c.in-Delete.is (begun-told _ _ _ (started_on c.start_delete-reply.result c.shown-in-Delete.result c.args.lent.now c.args.board (λ s. delete_of s c.in-Delete.w (key_of c.in-Delete.k)) c.shown-in-Delete.ensures (rw (to_z-of_z w32 c.in-Delete.k (search rules)) at c.start_delete-reply.ensures)) c.begun-in-Delete.ensures)

pub returns-in-Find-clause-told : goal.returns-in-Find-clause-told
unfolding play_by
returns-in-Find-clause-told c = rw c.in-Find.is (begun-told _ _ _ (started_on c.start_find-reply.result c.shown-in-Find.result c.args.lent.now c.args.board (λ s. find_of s c.in-Find.w (key_of c.in-Find.k)) c.shown-in-Find.ensures (rw (to_z-of_z w32 c.in-Find.k (search rules)) at c.start_find-reply.ensures)) c.begun-in-Find.ensures)

pub returns-in-Scan-clause-told : goal.returns-in-Scan-clause-told
unfolding play_by
returns-in-Scan-clause-told c = rw c.in-Scan.is (begun-told _ _ _ (started_on c.start_scan-reply.result c.shown-in-Scan.result c.args.lent.now c.args.board (λ s. scan_of s c.in-Scan.w (key_of c.in-Scan.a) (key_of c.in-Scan.b)) c.shown-in-Scan.ensures (rw (to_z-of_z w32 c.in-Scan.a (search rules), to_z-of_z w32 c.in-Scan.b (search rules)) at c.start_scan-reply.ensures)) c.begun-in-Scan.ensures)

pub returns-in-Turns-clause-told : goal.returns-in-Turns-clause-told
unfolding play_by
returns-in-Turns-clause-told c = rw c.in-Turns.is (ran-told _ _ _ c.run-taken.ensures.left c.ran.ensures)
