-- `fresh` is `fresh_of`: a test that fails leaves all as before; when it holds (`Asked`), each list and the board is its fresh one.
use mathlib.Core.Path.{◌≡◌, sym, ap, ◌∙◌}
use mathlib.Core.Bool.{◌&&◌}
use Rattle.laws.specs.Choice.{pick}
use Rattle.tables.specs.Fresh.{sizes_ok, lent_ok, fresh_of, fresh_world}
use Rattle.lending.specs.Lent.{lent_world}
use Rattle.fresh.proofs.Asked.{few_workers, long_lists}
use Rattle.fresh.proofs.fresh.Goals as goal

pub returns-then-not-asked_ok-clause-left : goal.returns-then-not-asked_ok-clause-left
unfolding fresh_of fresh_world pick
returns-then-not-asked_ok-clause-left c =
    let asked : c.asked_ok.result ≡ (sizes_ok c.args.sizes.n c.args.sizes.m c.args.sizes.p && lent_ok c.args.sizes.n c.args.sizes.m c.args.sizes.p (lent_world c.args.board c.args.lent.now)) = c.asked_ok.ensures c.args.board ∙ ap (λ s. sizes_ok c.args.sizes.n c.args.sizes.m c.args.sizes.p && lent_ok c.args.sizes.n c.args.sizes.m c.args.sizes.p s) (c.shown.ensures c.args.board) in
    rw (← asked, c.if-not-asked_ok.true)

pub fresh_lists-requires : goal.fresh_lists-requires
fresh_lists-requires c =
    let asked : c.asked_ok.result ≡ (sizes_ok c.args.sizes.n c.args.sizes.m c.args.sizes.p && lent_ok c.args.sizes.n c.args.sizes.m c.args.sizes.p (lent_world c.args.board c.args.lent.now)) = c.asked_ok.ensures c.args.board ∙ ap (λ s. sizes_ok c.args.sizes.n c.args.sizes.m c.args.sizes.p && lent_ok c.args.sizes.n c.args.sizes.m c.args.sizes.p s) (c.shown.ensures c.args.board) in
    let long = long_lists _ _ _ (lent_world c.args.board c.args.lent.now) (sym asked ∙ c.if-not-asked_ok.false) in
    record { n_in_bounds = long.0; m_in_bounds = long.1.0; n_in_bounds_2 = long.1.1.0; n_in_bounds_3 = long.1.1.1 }

pub fresh_board-requires : goal.fresh_board-requires
fresh_board-requires c =
    let asked : c.asked_ok.result ≡ (sizes_ok c.args.sizes.n c.args.sizes.m c.args.sizes.p && lent_ok c.args.sizes.n c.args.sizes.m c.args.sizes.p (lent_world c.args.board c.args.lent.now)) = c.asked_ok.ensures c.args.board ∙ ap (λ s. sizes_ok c.args.sizes.n c.args.sizes.m c.args.sizes.p && lent_ok c.args.sizes.n c.args.sizes.m c.args.sizes.p s) (c.shown.ensures c.args.board) in
    few_workers _ _ _ (lent_world c.args.board c.args.lent.now) (sym asked ∙ c.if-not-asked_ok.false)

pub returns-clause-left : goal.returns-clause-left
unfolding fresh_of fresh_world pick
returns-clause-left c =
    let asked : c.asked_ok.result ≡ (sizes_ok c.args.sizes.n c.args.sizes.m c.args.sizes.p && lent_ok c.args.sizes.n c.args.sizes.m c.args.sizes.p (lent_world c.args.board c.args.lent.now)) = c.asked_ok.ensures c.args.board ∙ ap (λ s. sizes_ok c.args.sizes.n c.args.sizes.m c.args.sizes.p && lent_ok c.args.sizes.n c.args.sizes.m c.args.sizes.p s) (c.shown.ensures c.args.board) in
    rw (c.fresh_board.ensures, c.fresh_lists.ensures.found_after, c.fresh_lists.ensures.pending_after, c.fresh_lists.ensures.records_after, c.fresh_lists.ensures.nodes_after, sym asked ∙ c.if-not-asked_ok.false)
