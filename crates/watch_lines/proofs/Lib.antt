mod FloatLemmas
