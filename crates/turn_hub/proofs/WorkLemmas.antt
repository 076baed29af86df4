-- takes and leads, said by stands and may alone, meet the laws of a Work.
use Rattle.turn_hub.specs.Work.{Takes, Leads}
use Rattle.std.proofs.Common.{List, [], ◌++◌, append-nil, append_assoc, arith}

module _ {W S I O : Type 0} (stands : S → List I → List O → W → Type 0) (may : S → List I → Type 0)
    (less : (s : S) (a b : List I) → may s (a ++ b) → may s a) where
  pub leads_none : (w : W) → Leads stands may w [] w []
  leads_none w s t g st m = simp append-nil st

  pub leads_on : (w : W) (a : List I) (x : W) (p : List O) (b : List I) (y : W) (q : List O)
      → Leads stands may w a x p → Leads stands may x b y q → Leads stands may w (a ++ b) y (p ++ q)
  leads_on w a x p b y q l m s t g st all = grind (arith, append_assoc)

  pub takes_less : (w : W) (a b : List I) → Takes stands may w (a ++ b) → Takes stands may w a
  takes_less w a b k = (k.0, k.1, k.2, k.3, less k.0 (k.1 ++ a) b (simp append_assoc k.4))

  pub takes_on : (w : W) (a b : List I) (x : W) (outs : List O) → Takes stands may w (a ++ b)
      → Leads stands may w a x outs → Takes stands may x b
  takes_on w a b x outs k l = grind (arith, append_assoc)
