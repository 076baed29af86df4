use Rattle.std.proofs.Common.{◌≡◌, ◌∷◌, ◌++◌, [], ℕ, ◌+◌, List, ap, sym, subst, ◌∙◌, length, length-append, ⊎_elim}
use lib.ListN.{get_elem?}
use Rattle.monitorable.specs.Cores.{core_form}
use Rattle.turn_hub.proofs.Opens.{at_end}
use Rattle.rescale_worker.specs.Working.{StandsFor, seed_of}
use Rattle.rescale_worker.specs.declared.worker.Worker.{Worker}
use Rattle.worker_pool.proofs.opening.start_workers.Goals as goal

-- the worker that was started stands behind the others
pub loop-k-preserved : goal.loop-k-preserved
loop-k-preserved c =
    let old : List Worker = c.loop-k.works.items in
    let new : Worker = c.in_ok-worker.worker in
    let Is : ℕ → Worker → Type 0 =
    (λ (k : ℕ) (w : Worker).
    (seed_of w ≡ record { core = core_form c.args.core.now; first = c.args.strategy.now; number = k })
    × StandsFor (seed_of w) [] [] w) in
    let items : c.push.new.self.items ≡ old ++ new ∷ [] = c.in_ok-push.ensures.items in
    record {
      count = ap length items ∙ length-append old (new ∷ []) ∙ ap (λ (n : ℕ). n + 1) c.loop-k.invariant.count;
      started = λ k w at.
          ⊎_elim (λ h. c.loop-k.invariant.started k w h)
          (λ h. subst (Is k) h.1
          (subst (λ (n : ℕ). Is n new) (sym (h.0 ∙ c.loop-k.invariant.count))
          (c.in_ok-worker.ensures.seed, c.in_ok-worker.ensures.stands)))
          (at_end old new w k (ap (λ (xs : List Worker). get_elem? xs k) (sym items) ∙ at));
    }
