mod StampLemmas
