-- What holds of files holds of those that are told.
use Rattle.std.proofs.Common.{◌≡◌, subst, append_assoc, append-nil, List, [], ◌++◌, Option, arith}
use Rattle.mon_outside.specs.{Files.Files, Files.ToldFiles, Inputs.Name, Inputs.asked_more}

-- what holds of all files holds of those that are told
pub told_all : (o : Option Files) (P : Files → Type 0) → ((files : Files) → P files) → ToldFiles o P
told_all o P h = grind arith

pub told_map : (o : Option Files) (P Q : Files → Type 0) → ((files : Files) → P files → Q files)
    → ToldFiles o P → ToldFiles o Q
told_map o P Q h told = grind arith

pub told_both : (o : Option Files) (P Q S : Files → Type 0) → ((files : Files) → P files → Q files → S files)
    → ToldFiles o P → ToldFiles o Q → ToldFiles o S
told_both o P Q S h p q = grind arith

-- the same files
pub told_at : (o p : Option Files) (P : Files → Type 0) → o ≡ p → ToldFiles o P → ToldFiles p P
told_at o p P e told = subst (λ (files : Option Files). ToldFiles files P) e told

-- names asked for behind others
pub asked_twice : (asked : Option (List Name)) (xs ys : List Name)
    → asked_more (asked_more asked xs) ys ≡ asked_more asked (xs ++ ys)
asked_twice asked xs ys = grind (arith, append_assoc)

-- no name was asked for
pub asked_none : (asked : Option (List Name)) → asked ≡ asked_more asked []
asked_none asked = grind (arith, append-nil)
