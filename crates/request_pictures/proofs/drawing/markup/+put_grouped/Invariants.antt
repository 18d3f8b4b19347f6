use Rattle.request_pictures.proofs.drawing.markup.+put_grouped.Given as goal

abbrev pub decreases-put_grouped : goal.decreases-put_grouped
decreases-put_grouped l = l.number
