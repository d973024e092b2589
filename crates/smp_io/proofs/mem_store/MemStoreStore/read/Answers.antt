use Rattle.std.proofs.Common.{rules, sym, inl, inr, refl}
use Rattle.smp_io.proofs.mem_store.MemStoreStore.read.Goals as goal
use Rattle.smp_io.proofs.mem_store.MemStoreStore.read.Goals.{in_default-via-in-Some+else-not-fails, in_default-via-in_default}

pub returns-in_default-clause-failed : goal.returns-in_default-clause-failed
returns-in_default-clause-failed c = (
  (λ failed. elim c.in_default.branch [
    | in_default-via-in-Some+else-not-fails w ↦ inl (rw (← c.self.view_is) (c.next_fails-fails.ensures.due.0 (search (rules, w.if-not-fails.false))))
    | in_default-via-in_default w ↦ inr (rw (← c.self.view_is) (rw c.deref.ensures.value at (sym w.in_default.ensures)))
  ]),
  λ due. refl,
)
