mod LinesLemmas
mod PrintedLemmas
mod StepsLemmas
