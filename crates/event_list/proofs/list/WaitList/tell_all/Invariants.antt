use Rattle.event_list.proofs.list.WaitList.tell_all.Given as goal

-- the ledger of the blank
abbrev pub ghosts-tell_all_from : goal.ghosts-tell_all_from
ghosts-tell_all_from g a = record { name = a.blank.name; parts = a.blank.parts }
