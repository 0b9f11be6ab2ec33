use Rattle.std.proofs.Common.{◌≡◌, ◌⊎◌, inl, refl, sym, subst, Result, Ok, Err, IfErr, OnOk}
use Rattle.parallel_map.specs.declared.error.MapError.{MapError}
use Rattle.parallel_map.specs.declared.error.MapError.TheVariants.{OutOfMemory, NoThread}
use Rattle.parallel_map.proofs.workers.run.Goals as goal

pub returns-clause-refused : goal.returns-clause-refused
returns-clause-refused g c = go c.finish.result c.start_all-started.result c.finish.ensures.unstarted c.finish.ensures.memory c.start_all-started.ensures.refused where
  IsWant : MapError → Type 0
  IsWant error = (error ≡ OutOfMemory) ⊎ (error ≡ NoThread)

  go : {X Y : Type 0} (result : Result X MapError) (started : Result Y MapError) → ((error : MapError) → started ≡ Err error → result ≡ Err error)
      → OnOk started (IfErr result (λ error. error ≡ OutOfMemory)) → IfErr started IsWant → IfErr result IsWant
  go (Ok answers) started unstarted memory refused = tt
  go (Err error) (Ok done) unstarted memory refused = inl memory
  go (Err error) (Err early) unstarted memory refused = subst (λ result. IfErr result IsWant) (sym (unstarted early refl)) refused
