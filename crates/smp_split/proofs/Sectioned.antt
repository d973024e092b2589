-- What holds of sections over some states holds over fewer of them.
use Rattle.std.proofs.Common.{Bool, ℕ}
use Rattle.smp_split.specs.{Sectioning.{IsPartOf, IsSectioned, Sectioning}, Trees.{Tree}}

module _ {State : Type 0} (tree : Tree State) (belongs fewer : State → Type 0) (within : (s : State) → fewer s → belongs s) (sections : Sectioning State) where
  pub sectioned_within : IsSectioned tree belongs sections → IsSectioned tree fewer sections
  sectioned_within is = record {
    going = λ s b going. is.going s (within s b) going;
    done = λ s b done. is.done s (within s b) done;
    rises = λ s b going. is.rises s (within s b) going;
  }

  pub part_within : {Inner : Type 0} (h : ℕ) (part : Tree Inner) (at : State → Inner) (own : ℕ → Bool) → IsPartOf tree belongs sections h part at own → IsPartOf tree fewer sections h part at own
  part_within h part at own is = record {
    going = λ s b here. is.going s (within s b) here;
    kind = λ s b here. is.kind s (within s b) here;
    bound = λ s b here. is.bound s (within s b) here;
    step = λ s v b here small. is.step s v (within s b) here small;
    elsewhere = λ s v b going away small. is.elsewhere s v (within s b) going away small;
    done = λ s b behind. is.done s (within s b) behind;
    selected = λ s b done unit inside. is.selected s (within s b) done unit inside;
  }
