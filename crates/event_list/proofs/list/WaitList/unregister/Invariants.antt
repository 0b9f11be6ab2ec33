use Rattle.event_list.proofs.list.WaitList.unregister.Given as goal

-- the ledger of the blank
abbrev pub ghosts-unregister_from : goal.ghosts-unregister_from
ghosts-unregister_from g a = record { name = a.blank.name; parts = a.blank.parts }
